use Rattle.std.proofs.Common.{◌≤◌}
use Rattle.inboxes.specs.Passes.{IsPassOf}
use Rattle.thread_tests.proofs.handing.take_all.Given as goal

abbrev pub invariant-loop : goal.invariant-loop
invariant-loop g l = IsPassOf l.inbox l.pass × (l.next ≤ 1000)
