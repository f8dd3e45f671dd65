use Rattle.std.proofs.Common.{ℕ, take}
use Rattle.trend_archive.specs.Trends.{IsTrend}
use Rattle.run_questions.proofs.trend.votes.trend_of.Given as goal

-- the updates so far are taken
abbrev pub invariant-loop-update : goal.invariant-loop-update
invariant-loop-update l = (screens : ℕ) → IsTrend l.plant screens (take l.update-index l.executed) l.trend
