-- The round trips told by the other masters are put in order one by one. With fewer than q - 1 of them there is
-- no bound, and else it is the (f + 1)st from above.
use Rattle.std.proofs.Common.{◌≡◌, ◌<◌, ◌≤◌, ◌+◌, ℕ, List, length, reverse, sym, ap, ◌∙◌, arith, rules}
use Rattle.std.specs.Prelude.{slice_index}
use Rattle.std.specs.List.{filter_map}
use Rattle.std.specs.Option.{option_to_list}
use Rattle.quorum_sets.specs.Masters.{numbers_below}
use Rattle.protocol_rules.specs.Words.{in_order}
use Rattle.suspect_leader.specs.MeasureState.{MeasureState, figure_at, put_each, figures_kept}
use Rattle.suspect_leader.proofs.Ranks.{some_more, nothing_in_order}
use Rattle.suspect_leader.proofs.Masters.{quorum_size, ranked_some, bound_some, bound_none}
use Rattle.quorum_sets.proofs.Numbered.{filter_map_start, filter_map_more, masters_few}
use Rattle.suspect_leader.proofs.measure.Measure.own_bound.Goals.{After-loop-master}
use Rattle.suspect_leader.proofs.measure.Measure.own_bound.Goals as goal

-- the figures of the masters below a number, in order
abbrev ranked_to : MeasureState → ℕ → List ℕ
ranked_to kept m = in_order (filter_map (figure_at kept) (numbers_below m))

few_ranked : (kept : MeasureState) (figures : List ℕ) (m : ℕ) → figures ≡ ranked_to kept m → length figures ≤ m
few_ranked kept figures m e = let same : length figures ≡ length (ranked_to kept m) = ap length e in
    omega (arith, ranked_some (figure_at kept) m)

-- after the loop all figures are there
all_ranked : (c : After-loop-master) → c.loop-master.figures ≡ in_order (figures_kept c.args.self.now)
all_ranked c = let ended : c.loop-master.master ≡ c.self.inside.sizes.n = omega arith in
    c.loop-master.invariant
    ∙ ap (ranked_to c.args.self.now) (ended ∙ ap (λ (k : MeasureState). k.group.n) c.self.view_is)

pub loop-master-init : goal.loop-master-init
loop-master-init c = c.new-figures.ensures
    ∙ sym (ap in_order (filter_map_start (figure_at c.args.self.now)) ∙ nothing_in_order)

pub put_if-requires : goal.put_if-requires
put_if-requires c =
    let few : c.self.inside.sizes.n ≤ 14 = masters_few c.self.inside.sizes in
    let most : length c.loop-master.figures ≤ c.loop-master.master =
    few_ranked c.args.self.now c.loop-master.figures c.loop-master.master c.loop-master.invariant in
    omega arith

pub loop-master-preserved : goal.loop-master-preserved
loop-master-preserved c =
    c.put_if.ensures ∙ ap (λ o. put_each (option_to_list o) c.loop-master.figures) c.figure.ensures
    ∙ ap (put_each (option_to_list (figure_at c.args.self.now c.loop-master.master))) c.loop-master.invariant
    ∙ sym (ap in_order (filter_map_more (figure_at c.args.self.now) c.loop-master.master)
    ∙ some_more (filter_map (figure_at c.args.self.now) (numbers_below c.loop-master.master))
    (figure_at c.args.self.now c.loop-master.master))

pub overflow_add-len : goal.overflow_add-len
overflow_add-len c =
    let few : c.self.inside.sizes.n ≤ 14 = masters_few c.self.inside.sizes in
    let most : length c.loop-master.figures ≤ c.loop-master.master =
    few_ranked c.args.self.now c.loop-master.figures c.loop-master.master c.loop-master.invariant in
    let count : c.len.result ≡ length c.loop-master.figures = c.len.ensures in
    let small : c.len.result + 1 < 18446744073709551616 = omega arith in
    search rules

pub returns-then-len-self : goal.returns-then-len-self
returns-then-len-self c =
    let same : c.self.inside.sizes.q ≡ c.args.self.now.group.q = ap (λ (k : MeasureState). k.group.q) c.self.view_is in
    let count : c.len.result ≡ length c.loop-master.figures = c.len.ensures in
    bound_none c.args.self.now c.loop-master.figures
    (all_ranked (goal.at.returns-then-len-self c).After-loop-master) (omega arith)

pub highest-requires : goal.highest-requires
highest-requires c =
    let enough : c.self.inside.sizes.f + 2 ≤ c.self.inside.sizes.q = quorum_size c.self.inside.sizes in
    let count : c.len.result ≡ length c.loop-master.figures = c.len.ensures in
    omega arith

pub returns : goal.returns
returns c =
    let same : c.self.inside.sizes.q ≡ c.args.self.now.group.q = ap (λ (k : MeasureState). k.group.q) c.self.view_is in
    let count : c.len.result ≡ length c.loop-master.figures = c.len.ensures in
    bound_some c.args.self.now c.loop-master.figures c.highest.result
    (all_ranked (goal.at.returns c).After-loop-master) (omega arith)
    (c.highest.ensures ∙ ap (λ (f : ℕ). slice_index (reverse c.loop-master.figures) f)
    (ap (λ (k : MeasureState). k.group.f) c.self.view_is))
