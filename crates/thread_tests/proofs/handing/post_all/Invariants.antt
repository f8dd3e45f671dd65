use Rattle.inboxes.specs.Passes.{IsPassOf}
use Rattle.thread_tests.proofs.handing.post_all.Given as goal

abbrev pub invariant-loop-number : goal.invariant-loop-number
invariant-loop-number g l = IsPassOf l.inbox l.pass
