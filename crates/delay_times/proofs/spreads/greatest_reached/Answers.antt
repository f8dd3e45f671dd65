use Rattle.delay_times.proofs.Growing.{greatest_more, reaches}
use Rattle.delay_times.proofs.spreads.greatest_reached.Goals as goal

pub loop-number-preserved : goal.loop-number-preserved
loop-number-preserved c =
    greatest_more (reaches c.args.count c.args.numbers.now) c.args.numbers.now c.loop-number.number-index 0
    c.loop-number.greatest c.if_reached.result c.max-greatest.result c.loop-number-test.true c.loop-number.invariant
    c.if_reached.ensures c.max-greatest.ensures
