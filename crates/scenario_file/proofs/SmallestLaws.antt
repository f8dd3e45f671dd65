-- The smallest scenario's text.
use Rattle.std.proofs.Common.{◌≡◌, refl, Ok}
use Rattle.std.specs.Prelude.{codes}
use Rattle.toml.proofs.OnLiterals.{toml_on_literals}
use Rattle.hex.proofs.OnLiterals.{hex_on_literals}
use Rattle.quorum_sets.specs.Masters.{numbers_below}
use Rattle.scenario_file.specs.Values.{needed, integer_in, count_in, integer_at, integer_or, count_at, count_or}
use Rattle.scenario_file.specs.Values.{text_at, bytes_at}
use Rattle.scenario_file.specs.Lists.{list_in, number_after, rows_at, rows_of}
use Rattle.scenario_file.specs.Settings.{levels_of, intruded_of, rules_of, settings_of}
use Rattle.scenario_file.specs.PlantRows.{devices_of, points_of, alarms_of, interlocks_of, plant_of}
use Rattle.scenario_file.specs.Keepers.{keepers_of}
use Rattle.scenario_file.specs.Unknown.{unknown_at, first_unknown}
use Rattle.scenario_file.specs.Reading.{scenario_of, scenario_in, smallest}

pub smallest-text : scenario_in
    (codes "f = 1\nseed = \"0000000000000000000000000000000000000000000000000000000000000000\"\nscreens = 1\n")
    ≡ Ok smallest
unfolding toml_on_literals hex_on_literals numbers_below needed integer_in count_in integer_at integer_or count_at
    count_or text_at bytes_at list_in number_after rows_at rows_of levels_of intruded_of rules_of settings_of devices_of
    points_of alarms_of interlocks_of plant_of keepers_of unknown_at first_unknown scenario_of scenario_in
smallest-text = refl
