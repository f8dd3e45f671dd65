use Rattle.std.proofs.Common.{◌≡◌, take}
use Rattle.replica_threads.proofs.posting.widened.Given as goal

abbrev pub invariant-loop-actor : goal.invariant-loop-actor
invariant-loop-actor l = l.made ≡ take l.actor-index l.actors
