-- Where none of the bodies asks for anything, the asks are right for the words said before and the bodies gone
-- over so far.
use Rattle.std.proofs.Common.{◌≡◌, take, false}
use Rattle.std.specs.List.{list_any}
use Rattle.reconcile.specs.declared.wanted.Wanted.{Wanted}
use Rattle.reconcile.specs.Asking.{asks}
use Rattle.reconcile.specs.AskState.{Says}
use Rattle.reconcile.proofs.giving.note_given.Given as goal

abbrev pub invariant-loop-body : goal.invariant-loop-body
invariant-loop-body l = ((w : Wanted) → list_any (asks w) l.bodies ≡ false) →
    Says l.fn.asks l.asks (take l.body-index l.bodies)
