-- What is listed is what the rules make due, and once it is said each view below the end was voted against.
use Rattle.std.proofs.Common.{◌≡◌, ◌∙◌, ◌&&◌, ◌≤◌, ℕ, min, nat_lt, sym, ap, arith}
use Rattle.std.specs.List.{filter_map}
use Rattle.quorum_sets.specs.Masters.{numbers_below}
use Rattle.protocol_rules.specs.Patience.{patience}
use Rattle.leader_patience.specs.PatienceState.{PatienceState, vote_at}
use Rattle.leader_patience.proofs.Votes.{viewed}
use Rattle.leader_patience.proofs.Due.{votes_are, all_said, votes_fit}
use Rattle.leader_patience.proofs.patience.Patience.due.Goals.{then-at_tick, else-at_tick}
use Rattle.leader_patience.proofs.patience.Patience.due.Goals as goal

pub returns-clause-bodies : goal.returns-clause-bodies
returns-clause-bodies c = λ g known said is.
    let impatient : c.if-at_tick.is_impatient ≡ (c.args.at_tick && nat_lt (patience g c.args.view c.args.now) c.args.waiting) =
    elim c.if-at_tick.branch [
      | then-at_tick w ↦ w.is_impatient-is ∙ ap (λ (p : ℕ). nat_lt p c.args.waiting) (w.patience.ensures g known said is)
          ∙ sym (ap (λ b. b && nat_lt (patience g c.args.view c.args.now) c.args.waiting) w.if-at_tick.true)
      | else-at_tick w ↦ w.is_impatient-is ∙ w.if-at_tick.false
          ∙ sym (ap (λ b. b && nat_lt (patience g c.args.view c.args.now) c.args.waiting) w.if-at_tick.false)
    ] in
    votes_are g c.args.self.now known said c.in_ok-bodies.bodies.items c.args.view c.args.now c.args.waiting
    c.min-end.result c.args.at_tick c.if-at_tick.is_impatient impatient
    (c.min-end.ensures ∙ ap (λ (e : ℕ). min e 255) c.votes_to.ensures) c.in_ok-bodies.ensures is

pub returns-clause-counted : goal.returns-clause-counted
returns-clause-counted c = λ g known said is.
    all_said g _ known said c.in_ok-bodies.bodies.items c.args.view c.args.now c.min-end.result c.max-self-inside.result
    c.if-at_tick.is_impatient c.max-self-inside.ensures
    (c.in_ok-bodies.ensures ∙ sym (ap (λ (k : PatienceState).
    filter_map (vote_at k c.args.view c.args.now c.if-at_tick.is_impatient) (numbers_below c.min-end.result))
    c.self-2.view_is)) (viewed c.self-2.view_is is)

pub returns-clause-places : goal.returns-clause-places
returns-clause-places c = λ g me within.
    let few : c.min-end.result ≤ 255 = omega arith in
    votes_fit g me c.args.self.now c.in_ok-bodies.bodies.items c.args.view c.args.now c.min-end.result
    c.if-at_tick.is_impatient within few c.in_ok-bodies.ensures
