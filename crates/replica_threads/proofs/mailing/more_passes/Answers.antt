-- The passes split off so far are those of the first inboxes, one more each turn. The passes that they are
-- split from stay passes of the same inboxes.
use Rattle.replica_threads.proofs.Passes.{none_split, one_split, all_split}
use Rattle.std.proofs.Common.{arith}
use Rattle.replica_threads.proofs.mailing.more_passes.Goals as goal

pub loop-place-init : goal.loop-place-init
loop-place-init c = (
  c.requires.passes,
  none_split c.args.inboxes.now c.new-others.result.items c.new-others.ensures.items,
)

pub loop-place-preserved : goal.loop-place-preserved
loop-place-preserved c = (
  c.split_off.ensures.passes,
  one_split c.args.inboxes.now c.loop-place.place c.loop-place.others.items c.push.new.self.items
      c.in_ok-split_off.field-0 c.loop-place.invariant.1 c.in_ok-split_off.ensures.other c.in_ok-push.ensures.items,
)

pub returns-clause-others : goal.returns-clause-others
returns-clause-others c =
    all_split c.args.inboxes.now c.loop-place.place c.loop-place.others.items
    (omega (arith, c.loop-place-test.false, c.loop-place.auto.place-end)) c.loop-place.invariant.1
