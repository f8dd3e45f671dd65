use Rattle.std.proofs.Common.{arith, sym, ◌∙◌}
use Rattle.field_proxy.proofs.ReadingLaws.{numbered-none, numbered_more}
use Rattle.field_proxy.proofs.readings.as_updates.Goals as goal

pub loop-place-init : goal.loop-place-init
loop-place-init c = c.in_ok-updates.ensures.items ∙ sym (numbered-none c.args.client c.args.first)

pub loop-place-preserved : goal.loop-place-preserved
loop-place-preserved c =
    c.in_ok-push.ensures.items
    ∙ numbered_more c.args.client c.args.first _ c.args.ops.now c.loop-place.place _ c.loop-place.updates.items
    c.loop-place-test.true (omega arith) c.loop-place.invariant
