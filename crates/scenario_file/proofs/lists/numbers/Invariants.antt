use Rattle.std.proofs.Common.{◌≡◌, ◌++◌, map, drop}
use Rattle.toml.specs.View.{view}
use Rattle.scenario_file.specs.Lists.{numbers_in, number_after, gathered}
use Rattle.scenario_file.specs.Series.{may_follow}
use Rattle.scenario_file.proofs.lists.numbers.Given as goal

abbrev pub invariant-loop-value : goal.invariant-loop-value
invariant-loop-value l =
    gathered (number_after (l.at ++ l.key) (may_follow l.series)) l.numbers (map view (drop l.value-index l.values))
    ≡ numbers_in (l.at ++ l.key) (may_follow l.series) (map view l.values)
