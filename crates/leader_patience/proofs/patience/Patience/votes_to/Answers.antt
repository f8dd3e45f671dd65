-- How far each master voted is put in order one by one.
use Rattle.std.proofs.Common.{cond, ◌≡◌, ◌<◌, ◌≤◌, ◌+◌, ℕ, List, length, map, max, reverse, sym, ap, ◌∙◌, arith}
use Rattle.std.specs.Prelude.{slice_index}
use Rattle.std.specs.List.{slice_index_or}
use Rattle.quorum_sets.specs.Masters.{numbers_below}
use Rattle.protocol_rules.specs.Words.{in_order, put_in_order}
use Rattle.suspect_leader.proofs.Ranks.{one_more, nothing_in_order}
use Rattle.suspect_leader.proofs.Masters.{ranked_length}
use Rattle.quorum_sets.proofs.Numbered.{map_more, map_start, masters_few}
use Rattle.leader_patience.specs.PatienceState.{PatienceState}
use Rattle.leader_patience.proofs.Due.{masters_above}
use Rattle.leader_patience.proofs.patience.Patience.votes_to.Goals.{After-loop-master, then-is_impatient, else-is_impatient}
use Rattle.leader_patience.proofs.patience.Patience.votes_to.Goals as goal

abbrev far : PatienceState → ℕ → ℕ
far kept j = slice_index_or kept.voted j 0

pub loop-master-init : goal.loop-master-init
loop-master-init c = c.new-ends.ensures ∙ sym (ap in_order (map_start (far c.args.self.now)) ∙ nothing_in_order)

pub put-requires : goal.put-requires
put-requires c =
    let few : c.self.inside.sizes.n ≤ 14 = masters_few c.self.inside.sizes in
    let count : length c.loop-master.ends ≡ c.loop-master.master = ap length c.loop-master.invariant
    ∙ ranked_length (far c.args.self.now) c.loop-master.master in
    omega arith

pub loop-master-preserved : goal.loop-master-preserved
loop-master-preserved c =
    c.put.ensures
    ∙ ap (λ (k : PatienceState). put_in_order (far k c.loop-master.master) c.loop-master.ends) c.self.view_is
    ∙ ap (put_in_order (far c.args.self.now c.loop-master.master)) c.loop-master.invariant
    ∙ sym (ap in_order (map_more (far c.args.self.now) c.loop-master.master)
    ∙ one_more (map (far c.args.self.now) (numbers_below c.loop-master.master))
    (far c.args.self.now c.loop-master.master))

-- after the loop all are there
all_ranked : (c : After-loop-master) →
    c.loop-master.ends ≡ in_order (map (far c.args.self.now) (numbers_below c.args.self.now.group.n))
all_ranked c = let ended : c.loop-master.master ≡ c.self.inside.sizes.n = omega arith in
    c.loop-master.invariant
    ∙ ap (λ (n : ℕ). in_order (map (far c.args.self.now) (numbers_below n)))
    (ended ∙ ap (λ (k : PatienceState). k.group.n) c.self.view_is)

pub highest-requires : goal.highest-requires
highest-requires c =
    let fewer : c.self.inside.sizes.f + c.self.inside.sizes.k < c.self.inside.sizes.n =
    masters_above c.self.inside.sizes in
    let count : length c.loop-master.ends ≡ c.args.self.now.group.n =
    ap length (all_ranked (goal.at.highest-requires c).After-loop-master)
    ∙ ranked_length (far c.args.self.now) c.args.self.now.group.n in
    let n : c.self.inside.sizes.n ≡ c.args.self.now.group.n = ap (λ (k : PatienceState). k.group.n) c.self.view_is in
    let f : c.self.inside.sizes.f ≡ c.args.self.now.group.f = ap (λ (k : PatienceState). k.group.f) c.self.view_is in
    let k : c.self.inside.sizes.k ≡ c.args.self.now.group.k = ap (λ (k : PatienceState). k.group.k) c.self.view_is in
    omega arith

pub returns : goal.returns
returns c =
    let own : c.if-is_impatient.own ≡ cond c.args.is_impatient (c.args.view + 1) c.args.view =
    elim c.if-is_impatient.branch [
      | then-is_impatient w ↦ w.own-is ∙ sym (ap (λ b. cond b (c.args.view + 1) c.args.view) w.if-is_impatient.true)
      | else-is_impatient w ↦ w.own-is ∙ sym (ap (λ b. cond b (c.args.view + 1) c.args.view) w.if-is_impatient.false)
    ] in
    c.max.ensures
    ∙ ap (λ (x : ℕ). max x c.if-is_impatient.own)
    (c.highest.ensures
    ∙ ap (λ (k : PatienceState). slice_index (reverse c.loop-master.ends) (k.group.f + k.group.k)) c.self.view_is
    ∙ ap (λ (l : List ℕ). slice_index (reverse l)
    (c.args.self.now.group.f + c.args.self.now.group.k)) (all_ranked (goal.at.returns c).After-loop-master))
    ∙ ap (λ (x : ℕ). max (slice_index
    (reverse (in_order (map (far c.args.self.now) (numbers_below c.args.self.now.group.n))))
    (c.args.self.now.group.f + c.args.self.now.group.k)) x) own
