use Rattle.std.proofs.Common.{◌≡◌, map, take}
use Rattle.reconcile.specs.Asking.{ask_for}
use Rattle.reconcile.proofs.again.asking_each.Given as goal

abbrev pub invariant-loop-one : goal.invariant-loop-one
invariant-loop-one l = l.bodies.items ≡ map ask_for (take l.one-index l.wanted)
