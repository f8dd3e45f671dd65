use Rattle.replica_threads.proofs.Passes.{AreMade}
use Rattle.replica_threads.proofs.mailing.empty_inboxes.Given as goal

abbrev pub invariant-loop-actor : goal.invariant-loop-actor
invariant-loop-actor l = AreMade l._actor l.inboxes.items l.passes.items
