-- After each body the asks are right for the words said up to it, since none of the bodies asks for anything.
-- After want of memory they are so for the bodies before the one that failed.
use Rattle.std.proofs.Common.{◌≡◌, ℕ, ◌<◌, ◌++◌, ◌∷◌, [], List, length, take, get_or, false, sym, ◌∙◌, ap, subst}
use Rattle.std.proofs.Common.{arith}
use Rattle.std.specs.List.{list_any}
use Rattle.std.proofs.lemmas.List.{take_all}
use Rattle.message_types.specs.declared.body.Body.{Body}
use Rattle.reconcile.specs.declared.wanted.Wanted.{Wanted}
use Rattle.reconcile.specs.Asking.{asks}
use Rattle.reconcile.specs.AskState.{AskState, AreAsksOf, Where}
use Rattle.reconcile.proofs.Loops.{spent_kept}
use Rattle.reconcile.proofs.Passed.{next_said, no_ask_at}
use Rattle.reconcile.proofs.giving.note_given.Goals as goal

pub loop-body-preserved : goal.loop-body-preserved
loop-body-preserved c = λ none g me known said is.
    let within : c.loop-body.body-index < length c.args.bodies.now = omega arith in
    let item = c.body-item.result in
    let here : item ≡ get_or c.args.bodies.now c.loop-body.body-index item = c.body-item.is in
    let quiet : (w : Wanted) → asks w item ≡ false = λ w. ap (asks w) here
    ∙ no_ask_at w c.args.bodies.now c.loop-body.body-index item within (none w) in
    next_said g me c.note_one.new.asks known said c.args.bodies.now c.loop-body.body-index item within
    (subst (λ (word : Body). AreAsksOf g me c.note_one.new.asks known
    ((said ++ take c.loop-body.body-index c.args.bodies.now) ++ word ∷ [])) here
    (c.in_ok-note_one.ensures.ok quiet g me known (said ++ take c.loop-body.body-index c.args.bodies.now)
    (c.loop-body.invariant none g me known said is)))

pub returns-clause-ok : goal.returns-clause-ok
returns-clause-ok c = λ none g me known said is.
    subst (λ (xs : List Body). AreAsksOf g me c.loop-body.asks known (said ++ xs))
    (take_all c.loop-body.body-index c.args.bodies.now (omega arith))
    (c.loop-body.invariant none g me known said is)

pub returns-in_err-note_one-clause-err : goal.returns-in_err-note_one-clause-err
returns-in_err-note_one-clause-err c =
    spent_kept
    (((w : Wanted) → list_any (asks w) c.args.bodies.now ≡ false) →
    Where c.args.asks.now (λ g me known said. (count : ℕ) × AreAsksOf g me c.note_one.new.asks known
    (said ++ take count c.args.bodies.now)))
    c.from_residual.result
    (λ none g me known said is. (
      c.loop-body.body-index,
      subst (λ (kept : AskState). AreAsksOf g me kept known (said ++ take c.loop-body.body-index c.args.bodies.now))
          (sym c.in_err-note_one.ensures.err) (c.loop-body.invariant none g me known said is),
    ))
