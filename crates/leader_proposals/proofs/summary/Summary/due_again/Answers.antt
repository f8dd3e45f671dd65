-- The last vector is kept; it is due again where it tells of more than is ordered, and then a summary was said.
use Rattle.std.proofs.Common.{◌≡◌, ◌∷◌, ◌&&◌, [], List, refl, ◌∙◌, cond, take, sym, ap, subst, append-nil}
use Rattle.message_types.specs.declared.body.Body.{Body}
use Rattle.message_types.specs.declared.body.Body.TheVariants as body
use Rattle.quorum_sets.proofs.Numbered.{masters_few}
use Rattle.leader_proposals.specs.Saying.{SummedUp, IsSummaryOf}
use Rattle.leader_proposals.proofs.Again.{again-due, again-none}
use Rattle.leader_proposals.proofs.Summing.{said-numbers}
use Rattle.leader_proposals.proofs.summary.Summary.due_again.Goals as goal
use Rattle.leader_proposals.proofs.summary.Summary.due_again.Goals.{then-not-at_beat-via-then-not-at_beat}
use Rattle.leader_proposals.proofs.summary.Summary.due_again.Goals.{then-not-at_beat-via-else-not-at_beat+then-not-exceeds}

pub returns-then-not-at_beat-clause-due : goal.returns-then-not-at_beat-clause-due
returns-then-not-at_beat-clause-due c = λ g facts said now at_tick is told beat. elim c.then-not-at_beat.branch [
  | then-not-at_beat-via-then-not-at_beat w ↦
      again-none g facts said now at_tick c.args.at_beat beat w.if-not-at_beat.true
  | then-not-at_beat-via-else-not-at_beat+then-not-exceeds w ↦
      let a = c.self.inside in
      let kept = c.args.self.now in
      (λ i. cond (sym w.if-not-at_beat.false i && sym w.if-not-exceeds.true i)
      (body.PoSummary record { numbers = kept.numbers } ∷ []) [])
      ∙ again-due g facts said kept c.args.ordered.now.numbers a.last.numbers a.sizes.n now at_tick c.args.at_beat
      w.exceeds.result is (sym (ap (λ (s : SummedUp). s.masters) c.self.view_is))
      (sym (ap (λ (s : SummedUp). s.numbers) c.self.view_is)) (masters_few a.sizes) told beat w.exceeds.ensures
]

pub returns-then-not-at_beat-clause-said : goal.returns-then-not-at_beat-clause-said
returns-then-not-at_beat-clause-said c = λ g said is.
    subst (λ (words : List Body). IsSummaryOf g c.args.self.now words) (sym (append-nil said)) is

pub returns-clause-due : goal.returns-clause-due
returns-clause-due c = λ g facts said now at_tick is told beat.
    let a = c.self.inside in
    let kept = c.args.self.now in
    let numbers : kept.numbers ≡ take a.sizes.n a.last.numbers =
    sym (ap (λ (s : SummedUp). s.numbers) c.self.view_is) in
    ap (λ ns. body.PoSummary record { numbers = ns } ∷ []) (c.in_ok-numbers.ensures ∙ sym numbers)
    ∙ (λ i. cond (sym c.if-not-at_beat.false i && sym c.if-not-exceeds.false i)
    (body.PoSummary record { numbers = kept.numbers } ∷ []) [])
    ∙ again-due g facts said kept c.args.ordered.now.numbers a.last.numbers a.sizes.n now at_tick c.args.at_beat
    c.exceeds.result is (sym (ap (λ (s : SummedUp). s.masters) c.self.view_is)) numbers (masters_few a.sizes) told beat
    c.exceeds.ensures

pub returns-clause-said : goal.returns-clause-said
returns-clause-said c = λ g said is.
    said-numbers g c.args.self.now c.args.self.now said c.in_ok-numbers.numbers refl
    (c.in_ok-numbers.ensures ∙ ap (λ (s : SummedUp). s.numbers) c.self.view_is) is
