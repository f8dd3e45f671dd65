use Rattle.std.specs.Prelude.{ℕ, Bool, List}
use Rattle.scenario_file.specs.declared.lists.Series.{Series}
use Rattle.scenario_file.specs.declared.lists.Series.TheVariants as series
use Rattle.scenario_file.specs.Settings.{is_height, is_new_master}
use Rattle.scenario_file.specs.Keepers.{is_next_call}

-- whether a number may stand behind others
abbrev pub may_follow : Series → List ℕ → ℕ → Bool
may_follow series.Heights = is_height
may_follow (series.Masters n) = is_new_master n
may_follow series.Calls = is_next_call
