-- Each round adds one hand with a pass of each inbox.
use Rattle.std.proofs.Common.{arith}
use Rattle.replica_threads.proofs.Passes.{no_jobs, one_job, all_jobs}
use Rattle.replica_threads.proofs.mailing.jobs.Goals as goal

pub loop-hand-init : goal.loop-hand-init
loop-hand-init c = (c.requires.passes, no_jobs c.args.inboxes.now c.new-jobs.result.items c.new-jobs.ensures.items)

pub loop-hand-preserved : goal.loop-hand-preserved
loop-hand-preserved c = (
  c.more_passes.ensures.passes,
  one_job c.args.inboxes.now c.loop-hand._hand c.loop-hand.jobs.items c.push.new.self.items
      (record { passes = c.in_ok-passes.passes }) c.loop-hand.invariant.1 c.in_ok-passes.ensures.others
      c.in_ok-push.ensures.items,
)

pub returns-clause-jobs : goal.returns-clause-jobs
returns-clause-jobs c =
    all_jobs c.args.inboxes.now c.loop-hand._hand c.args.count c.loop-hand.jobs.items
    (omega (arith, c.loop-hand-test.false, c.loop-hand.auto._hand-end)) c.loop-hand.invariant.1
