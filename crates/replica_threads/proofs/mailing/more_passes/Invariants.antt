use Rattle.replica_threads.specs.Hands.{ArePassesOf}
use Rattle.replica_threads.proofs.Passes.{AreSplit}
use Rattle.replica_threads.proofs.mailing.more_passes.Given as goal

-- one pass of each inbox so far was split off
abbrev pub invariant-loop-place : goal.invariant-loop-place
invariant-loop-place l = ArePassesOf l.inboxes l.passes.items × AreSplit l.inboxes l.place l.others.items
