use Rattle.std.proofs.Common.{◌≡◌, drop}
use Rattle.axis_pictures.specs.Charts.{longest, longest_from}
use Rattle.axis_pictures.proofs.chart.longest.Given as goal

-- the longest so far, and the rest, have the longest of all
abbrev pub invariant-loop-outcome : goal.invariant-loop-outcome
invariant-loop-outcome l = longest_from l.best (drop l.outcome-index l.outcomes) ≡ longest l.outcomes
