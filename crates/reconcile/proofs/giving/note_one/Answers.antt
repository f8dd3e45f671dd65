-- A gift takes what it gives off the asks; any other body that asks for nothing leaves them right as they were.
use Rattle.std.proofs.Common.{◌≡◌, ◌∷◌, [], false, ◌∙◌}
use Rattle.reconcile.specs.declared.wanted.Wanted.{Wanted}
use Rattle.reconcile.specs.Asking.{asks}
use Rattle.reconcile.specs.AskState.{Says}
use Rattle.reconcile.proofs.Order.{same_itself}
use Rattle.reconcile.proofs.Loops.{done_kept}
use Rattle.reconcile.proofs.Passed.{body_passed}
use Rattle.reconcile.proofs.giving.note_one.Goals as goal

pub returns-in-Some-clause-ok : goal.returns-in-Some-clause-ok
returns-in-Some-clause-ok c =
    done_kept _
    (((w : Wanted) → asks w c.args.body.now ≡ false) → Says c.args.asks.now c.given.new.self (c.args.body.now ∷ []))
    c.given.result
    (λ told none. told c.args.body.now (c.in-Some.ensures c.in-Some.wanted ∙ same_itself c.in-Some.wanted))
    c.given.ensures.ok

pub returns-in-None-clause-ok : goal.returns-in-None-clause-ok
returns-in-None-clause-ok c = λ none g me known said is. body_passed g me c.args.asks.now known said c.args.body.now
    c.in-None.ensures none is
