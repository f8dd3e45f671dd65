use Rattle.std.proofs.Common.{◌+◌, ◌∙◌}
use Rattle.run_questions.proofs.GreatestReached.{reached-by}
use Rattle.run_questions.proofs.trend.counting.executed_by_more.Goals as goal

pub returns : goal.returns
returns c = reached-by (c.args.scenario.now.sizes.f + 1) _ _ _ c.greatest_reached.ensures
    (c.as_slice.ensures.value ∙ c.in_ok-counts.ensures)
