use Rattle.axis_pictures.proofs.Turned.{longest_is, longest_more}
use Rattle.axis_pictures.proofs.chart.longest.Goals as goal

pub loop-outcome-preserved : goal.loop-outcome-preserved
loop-outcome-preserved c =
    longest_more c.args.outcomes.now c.loop-outcome.outcome-index _ c.loop-outcome.best _ _
    c.loop-outcome-test.true c.longer-best.ensures c.loop-outcome.invariant

pub returns : goal.returns
returns c = longest_is c.args.outcomes.now c.loop-outcome.outcome-index c.loop-outcome.best c.loop-outcome-test.false
    c.loop-outcome.invariant
