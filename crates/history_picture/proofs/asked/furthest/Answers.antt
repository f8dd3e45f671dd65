use Rattle.history_picture.proofs.Furthest.{furthest_is, furthest_more, works_at}
use Rattle.history_picture.proofs.asked.furthest.Goals as goal

pub loop-bench-preserved : goal.loop-bench-preserved
loop-bench-preserved c =
    furthest_more c.args.benches.now c.loop-bench.bench-index c.bench-item.result c.loop-bench.best.now _ _ _
    c.loop-bench-test.true c.bench-item.is
    (c.executions.ensures
    (works_at c.args.benches.now c.loop-bench.bench-index c.bench-item.result c.requires c.loop-bench-test.true
    c.bench-item.is))
    c.further-best.ensures c.loop-bench.invariant

pub returns : goal.returns
returns c = furthest_is c.args.benches.now c.loop-bench.bench-index _ _ c.loop-bench-test.false c.loop-bench.invariant
