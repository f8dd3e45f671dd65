-- The command line as `clap` is to have it: seventeen subcommands, each with required words, numbers of a
-- range among them; pictures have numbers that may be left out, and `merge` takes one to 26 files.
-- It is this project's own. How `clap` reads words for it is the kit's definition (`fault_of`, `subcommand_of`).
use Rattle.std.specs.Prelude.{◌≡◌, ℕ, true, false, List, [], ◌∷◌, Some, codes}
use Rattle.clap.specs.Words.{App, Rule, Shape, Text, app_of, new_rule}
use Rattle.clap.specs.Simple.{new_shape}
use Rattle.clap.specs.declared.builder.command.Command.{Command}
use Rattle.clap.specs.declared.builder.command.Command.TheViews.{out-Command}
use Rattle.clap.specs.declared.builder.value_parser.ValueParser.TheVariants as vp

-- a required word
abbrev pub text_rule : Text → Rule
text_rule id = record (new_rule id) { required = true }

-- a required number in a range
abbrev pub number_rule : Text → ℕ → ℕ → Rule
number_rule id low high = record (text_rule id) { parser = Some (vp.Unsigned low high) }

-- the same behind `--id`
abbrev pub option_rule : Text → ℕ → ℕ → Rule
option_rule id low high = record (number_rule id low high) { long = Some id }

-- a number in a range that may be left out
abbrev pub free_rule : Text → ℕ → ℕ → Rule
free_rule id low high = record (new_rule id) { parser = Some (vp.Unsigned low high) }

-- how many pixels wide a picture is, behind `--width`
abbrev pub width_rule : Rule
width_rule = record (free_rule (codes "width") 600 4000) { long = Some (codes "width") }

-- the files that stations kept, one to as many as a group has actors at most
abbrev pub keeps_rule : Rule
keeps_rule = record (text_rule (codes "keep")) { range = Some (record { start_inclusive = 1; end_inclusive = 26 }) }

-- a required number that only has to fit 32 bits
abbrev pub whole_rule : Text → Rule
whole_rule id = number_rule id 0 4294967295

abbrev pub command : Text → List Rule → Shape
command name rules = record (new_shape name) { rules = rules }

abbrev pub play_shape : Shape
play_shape =
    command (codes "play") (text_rule (codes "scenario") ∷ text_rule (codes "script") ∷ text_rule (codes "words") ∷
    [])

abbrev pub run_shape : Shape
run_shape = command (codes "run") (text_rule (codes "scenario") ∷ text_rule (codes "script") ∷ text_rule (codes
    "words")
    ∷ option_rule (codes "hands") 1 4 ∷ option_rule (codes "turns") 1 4000 ∷ [])

abbrev pub replay_shape : Shape
replay_shape = command (codes "replay") (text_rule (codes "scenario") ∷ text_rule (codes "history") ∷ [])

abbrev pub make_shape : Shape
make_shape = command (codes "make") (whole_rule (codes "number") ∷ [])

abbrev pub keys_shape : Shape
keys_shape = command (codes "keys") (text_rule (codes "scenario") ∷ [])

abbrev pub key_shape : Shape
key_shape = command (codes "key") (text_rule (codes "scenario") ∷ text_rule (codes "actor") ∷ [])

abbrev pub verify_shape : Shape
verify_shape = command (codes "verify")
    (text_rule (codes "public") ∷ text_rule (codes "message") ∷ text_rule (codes "signature") ∷ [])

abbrev pub parts_shape : Shape
parts_shape = command (codes "parts") (text_rule (codes "scenario") ∷ text_rule (codes "history")
    ∷ whole_rule (codes "originator") ∷ whole_rule (codes "number") ∷ [])

abbrev pub rebuild_shape : Shape
rebuild_shape = command (codes "rebuild") (text_rule (codes "scenario") ∷ text_rule (codes "pieces") ∷ [])

abbrev pub blame_shape : Shape
blame_shape = command (codes "blame") (text_rule (codes "scenario") ∷ text_rule (codes "history") ∷ [])

abbrev pub trend_shape : Shape
trend_shape = command (codes "trend") (text_rule (codes "scenario") ∷ text_rule (codes "history")
    ∷ whole_rule (codes "point") ∷ whole_rule (codes "first") ∷ whole_rule (codes "last") ∷ [])

abbrev pub delays_shape : Shape
delays_shape = command (codes "delays") (text_rule (codes "scenario") ∷ text_rule (codes "history") ∷ [])

abbrev pub page_shape : Shape
page_shape = command (codes "page") (text_rule (codes "scenario") ∷ text_rule (codes "history") ∷ [])

-- (the range's ends: which stamps are shown)
abbrev pub picture_shape : Shape
picture_shape = command (codes "picture") (text_rule (codes "scenario") ∷ text_rule (codes "history")
    ∷ free_rule (codes "first") 0 4294967295 ∷ free_rule (codes "last") 0 4294967295 ∷ width_rule ∷ [])

abbrev pub plot_shape : Shape
plot_shape = command (codes "plot") (text_rule (codes "scenario") ∷ text_rule (codes "history")
    ∷ whole_rule (codes "point") ∷ width_rule ∷ [])

abbrev pub chart_shape : Shape
chart_shape =
    command (codes "chart") (text_rule (codes "scenario") ∷ text_rule (codes "history") ∷ width_rule ∷ [])

abbrev pub merge_shape : Shape
merge_shape = command (codes "merge") (text_rule (codes "scenario") ∷ keeps_rule ∷ [])

-- the words begin with the subcommand, and one is required
abbrev pub top_shape : Shape
top_shape = record (new_shape (codes "spire")) {
  is_leaf = false;
  no_binary_name = true;
  subcommand_required = true;
}

abbrev pub spire_app : App
spire_app = record {
  top = top_shape;
  subs = play_shape ∷ run_shape ∷ replay_shape ∷ make_shape ∷ keys_shape ∷ key_shape ∷ verify_shape ∷ parts_shape
      ∷ rebuild_shape ∷ blame_shape ∷ trend_shape ∷ delays_shape ∷ page_shape ∷ picture_shape ∷ plot_shape
      ∷ chart_shape ∷ merge_shape ∷ [];
}

-- the command has this shape, no subcommand and no global argument
abbrev pub IsCommand : Shape → Command → Type 0
IsCommand shape made = (app_of made ≡ record { top = shape; subs = [] }) × ((out-Command made).has_globals ≡ false)
