-- The command line of a station as `clap` is to have it: one subcommand with three required words, and two that come
-- together or not at all. It is this project's own.
-- How `clap` reads words for it is the kit's definition (`fault_of`, `subcommand_of`).
use Rattle.std.specs.Prelude.{[], ◌∷◌, Some, codes}
use Rattle.clap.specs.Words.{App, Rule, Shape, new_rule}
use Rattle.command_words.specs.CommandLine.{command, text_rule, top_shape}

-- the files of a ring and of an own key
abbrev pub keys_rule : Rule
keys_rule = record (new_rule (codes "keys")) { range = Some (record { start_inclusive = 2; end_inclusive = 2 }) }

abbrev pub station_shape : Shape
station_shape = command (codes "station")
    (text_rule (codes "scenario") ∷ text_rule (codes "actor") ∷ text_rule (codes "keep") ∷ keys_rule ∷ [])

abbrev pub station_app : App
station_app = record { top = top_shape; subs = station_shape ∷ [] }
