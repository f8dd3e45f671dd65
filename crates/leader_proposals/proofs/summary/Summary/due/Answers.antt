-- At a tick the summary is due where the first n numbers differ from those said last, which are compared place
-- by place; what is said then is what was said last from then on.
use Rattle.std.proofs.Common.{◌≡◌, ◌∷◌, [], take, sym, ◌∙◌, ap}
use Rattle.std.specs.Str.{bytes_eq}
use Rattle.message_types.specs.declared.body.Body.TheVariants as body
use Rattle.leader_proposals.specs.Saying.{SummedUp}
use Rattle.leader_proposals.proofs.Summing.{due-told, said-numbers, none-untick, none-due, some-due}
use Rattle.leader_proposals.proofs.summary.Summary.due.Goals as goal
use Rattle.leader_proposals.proofs.summary.Summary.due.Goals.{then-not-at_tick-via-then-not-at_tick}
use Rattle.leader_proposals.proofs.summary.Summary.due.Goals.{then-not-at_tick-via-else-not-at_tick+then-is_same}

pub returns-then-not-at_tick-clause-due : goal.returns-then-not-at_tick-clause-due
returns-then-not-at_tick-clause-due c = λ g known said is tells. elim c.then-not-at_tick.branch [
  | then-not-at_tick-via-then-not-at_tick w ↦ none-untick g known said c.args.at_tick w.if-not-at_tick.true
  | then-not-at_tick-via-else-not-at_tick+then-is_same w ↦
      let a = c.self.inside in
      let masters : c.args.self.now.masters ≡ a.sizes.n = sym (ap (λ (s : SummedUp). s.masters) c.self.view_is) in
      let numbers : c.args.self.now.numbers ≡ take a.sizes.n a.last.numbers =
      sym (ap (λ (s : SummedUp). s.numbers) c.self.view_is) in
      none-due c.args.at_tick w.is_same.result
      (body.PoSummary record { numbers = take a.sizes.n c.args.numbers.now.numbers } ∷ []) _ w.if-is_same.true
      (due-told g known said c.args.self.now c.args.at_tick w.is_same.result a.sizes.n c.args.numbers.now.numbers is
      tells masters w.is_same.ensures.places
      (w.is_same.ensures.same ∙ ap (bytes_eq (take a.sizes.n c.args.numbers.now.numbers)) (sym numbers)))
]

pub returns-clause-due : goal.returns-clause-due
returns-clause-due c = λ g known said is tells.
    let a = c.self.inside in
    let masters : c.args.self.now.masters ≡ a.sizes.n = sym (ap (λ (s : SummedUp). s.masters) c.self.view_is) in
    let numbers : c.args.self.now.numbers ≡ take a.sizes.n a.last.numbers =
    sym (ap (λ (s : SummedUp). s.numbers) c.self.view_is) in
    ap (λ xs. body.PoSummary record { numbers = xs } ∷ []) c.in_ok-numbers_now.ensures
    ∙ some-due c.args.at_tick c.is_same.result
    (body.PoSummary record { numbers = take a.sizes.n c.args.numbers.now.numbers } ∷ [])
    _ c.if-not-at_tick.false c.if-is_same.false
    (due-told g known said c.args.self.now c.args.at_tick c.is_same.result a.sizes.n c.args.numbers.now.numbers is
    tells masters c.is_same.ensures.places
    (c.is_same.ensures.same ∙ ap (bytes_eq (take a.sizes.n c.args.numbers.now.numbers)) (sym numbers)))

pub returns-clause-said : goal.returns-clause-said
returns-clause-said c = λ g said is.
    said-numbers g c.args.self.now record {
      masters = c.self.inside.sizes.n;
      numbers =
          take c.self.inside.sizes.n c.args.numbers.now.numbers;
    } said c.in_ok-numbers_now.numbers_now
    (ap (λ (s : SummedUp). s.masters) c.self.view_is) c.in_ok-numbers_now.ensures is
