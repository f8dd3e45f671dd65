use Rattle.std.proofs.Common.{◌≡◌, filter, take}
use Rattle.reconcile.specs.Again.{is_due_kept}
use Rattle.reconcile.proofs.again.due_among.Given as goal

abbrev pub invariant-loop-wanted : goal.invariant-loop-wanted
invariant-loop-wanted l = l.due.items ≡ filter (is_due_kept l.asked.keys l.now) (take l.wanted-index l.lacking)
