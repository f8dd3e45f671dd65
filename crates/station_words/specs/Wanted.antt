-- What the words of a station ask for. (This project's own.)
use Rattle.std.specs.Prelude.{Bool, false, List, [], ◌∷◌, Option, None, Some, codes, if◌then◌else◌, option_and_then}
use Rattle.std.specs.Prelude.{option_map}
use Rattle.std.specs.Str.{bytes_eq}
use Rattle.clap.specs.Words.{Row, Text, all_of, first_of, fault_of, subcommand_of}
use Rattle.clap.specs.Walk.{is_empty}
use Rattle.command_words.specs.Wanted.{IsName}
use Rattle.station_words.specs.CommandLine.{station_app}
use Rattle.station_words.specs.declared.given.KeyFiles.{KeyFiles}
use Rattle.station_words.specs.declared.given.StationWords.{StationWords}

-- A scenario's file, an actor's name, and the file that it keeps; where the scenario has no seed, the files of the ring and of
-- the own key.
pub record Wanted : Type 0 where
  pub scenario : Text
  pub actor : Text
  pub keep : Text
  pub keys : Option (Text × Text)

abbrev pub key_files : KeyFiles → Text × Text
key_files files = (files.ring.now, files.key.now)

abbrev pub wanted : StationWords → Wanted
wanted given = record {
  scenario = given.scenario.now;
  actor = given.actor.now;
  keep = given.keep.now;
  keys = option_map key_files given.keys;
}

-- the words begin with the subcommand
abbrev pub is_station : List Text → Bool
is_station [] = false
is_station (first ∷ rest) = bytes_eq first (codes "station")

-- `clap` refuses the words for no cause but want of memory
abbrev pub is_taken : List Text → Bool
is_taken words = is_empty (fault_of station_app words)

-- ---- The values among what `clap` found, by their names.

abbrev pub with_text : Text → List Row → (Text → Option Wanted) → Option Wanted
with_text id rows next = option_and_then next (first_of id rows)

-- two files or none
abbrev pub keys_in : Option (List Text) → Option (Option (Text × Text))
keys_in None = Some None
keys_in (Some (ring ∷ key ∷ [])) = Some (Some (ring, key))
keys_in (Some other) = None

abbrev pub with_keys : List Row → (Option (Text × Text) → Option Wanted) → Option Wanted
with_keys rows next = option_and_then next (keys_in (all_of (codes "keys") rows))

abbrev pub station_in : List Row → Option Wanted
station_in rows = with_text (codes "scenario") rows (λ scenario.
    with_text (codes "actor") rows (λ actor.
    with_text (codes "keep") rows (λ keep.
    with_keys rows (λ keys. Some (record { scenario = scenario; actor = actor; keep = keep; keys = keys })))))

abbrev pub named_in : Text → List Row → Option Wanted
named_in name rows = if bytes_eq name (codes "station") then station_in rows else None

-- the station that `clap` found, by the subcommand's name and its rows
abbrev pub station_found : Option (Text × List Row) → Option Wanted
station_found = option_and_then (λ found. named_in found.0 found.1)

-- what the words ask for, as `clap` finds it in them
abbrev pub wanted_in : List Text → Option Wanted
wanted_in words = station_found (subcommand_of station_app words)

-- ---- A station as a user writes it.

abbrev pub key_words : Option (Text × Text) → List Text
key_words None = []
key_words (Some files) = files.0 ∷ files.1 ∷ []

abbrev pub words_of : Wanted → List Text
words_of asked = codes "station" ∷ asked.scenario ∷ asked.actor ∷ asked.keep ∷ key_words asked.keys

abbrev pub AreNames : Option (Text × Text) → Type 0
AreNames None = Unit {0}
AreNames (Some files) = IsName files.0 × IsName files.1

-- no name is empty or begins with a hyphen
abbrev pub IsPlain : Wanted → Type 0
IsPlain asked = IsName asked.scenario × IsName asked.actor × IsName asked.keep × AreNames asked.keys
