-- The trend after the updates so far is the definition's, one update more each turn. Its count is no more than
-- that of the updates gone over, so it can't overflow.
use Rattle.std.proofs.Common.{arith}
use Rattle.run_questions.proofs.VotesGathered.{trend_count, trend_more-at, trend_whole}
use Rattle.run_questions.proofs.trend.votes.trend_of.Goals as goal

pub apply-requires : goal.apply-requires
apply-requires c =
    let count = trend_count c.args.plant.now c.args.executed.now c.loop-update.update-index c.loop-update.trend
    c.loop-update-test.true c.loop-update.invariant in
    omega (arith, c.loop-update-test.true)

pub loop-update-preserved : goal.loop-update-preserved
loop-update-preserved c =
    trend_more-at c.args.plant.now c.args.executed.now c.loop-update.update-index _ _ _ c.loop-update-test.true
    c.in_ok-apply.ensures.ok c.loop-update.invariant

pub returns : goal.returns
returns c = trend_whole c.args.plant.now c.args.executed.now c.loop-update.update-index _ c.loop-update-test.false
    c.loop-update.invariant
