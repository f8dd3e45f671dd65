use Rattle.std.proofs.Common.{ap, sym, ◌∙◌}
use Rattle.field_proxy.proofs.ReadingLaws.{told-none, told_more}
use Rattle.field_proxy.proofs.readings.tell.Goals as goal

pub loop-op-init : goal.loop-op-init
loop-op-init c = sym (told-none c.args.lasts.now)

pub loop-op-preserved : goal.loop-op-preserved
loop-op-preserved c = c.tell_one.ensures ∙ told_more c.args.lasts.now c.loop-op.lasts c.args.ops.now
    c.loop-op.op-index _ c.loop-op-test.true c.loop-op.invariant
