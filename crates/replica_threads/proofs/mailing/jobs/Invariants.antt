use Rattle.replica_threads.specs.Hands.{ArePassesOf}
use Rattle.replica_threads.specs.Courses.{AreJobs}
use Rattle.replica_threads.proofs.mailing.jobs.Given as goal

abbrev pub invariant-loop-hand : goal.invariant-loop-hand
invariant-loop-hand l = ArePassesOf l.inboxes l.passes.items × AreJobs l.inboxes l._hand l.jobs.items
