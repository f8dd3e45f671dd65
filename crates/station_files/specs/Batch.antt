-- What a station has to keep and to put out, and how both go out together. (This project's own; that a word is sent once its
-- entry is kept for good is the rule of write-ahead logs.)
use Rattle.std.specs.Prelude.{◌≡◌, ◌⊎◌, ℕ, Bool, false, if◌then◌else◌, List, [], Option, Result, Ok, Err, take}
use Rattle.outside.specs.Piece.{with_piece as put_behind}
use Rattle.station_files.specs.Held.{Held, with_piece, all_durable}
use Rattle.station_files.specs.declared.batch.ReleaseAnswer.{ReleaseAnswer}
use Rattle.station_files.specs.declared.batch.ReleaseAnswer.TheVariants as answer

-- The lines of entries that aren't in the file yet, what is to be put out, and whether words are among that, and not only
-- notes for this machine.
pub record Waiting : Type 0 where
  pub lines : List ℕ
  pub out : List ℕ
  pub has_words : Bool

abbrev pub none_waits : Waiting
none_waits = record { lines = []; out = []; has_words = false }

-- the file with the lines, all of it durable where words are to be put out
abbrev pub kept_with : Option Held → List ℕ → Bool → Option Held
kept_with held lines has_words = if has_words then all_durable (with_piece held lines) else with_piece held lines

-- a beginning of the lines was added, and nothing more is known to be durable
abbrev pub HasBegun : Option Held → List ℕ → Option Held → Type 0
HasBegun held lines after = (count : ℕ) × (after ≡ with_piece held (take count lines))

-- All lines are kept, and durable where words wait, before anything is put out. Where they can't be, nothing is put out, and
-- the file has a beginning of them. Where the output fails, a beginning of what was to be put out was.
abbrev pub Releases : Waiting → Option Held → Option (List ℕ) → Result (Unit {0}) ReleaseAnswer → Option Held →
    Option (List ℕ) → Type 0
Releases waiting held told (Ok _) after put =
    (after ≡ kept_with held waiting.lines waiting.has_words) × (put ≡ put_behind told waiting.out)
Releases waiting held told (Err answer.NotKept) after put = HasBegun held waiting.lines after × (put ≡ told)
Releases waiting held told (Err answer.NotPut) after put =
    (after ≡ kept_with held waiting.lines waiting.has_words)
    × ((count : ℕ) × (put ≡ put_behind told (take count waiting.out)))
Releases waiting held told (Err answer.Want) after put =
    (HasBegun held waiting.lines after ⊎ (after ≡ kept_with held waiting.lines waiting.has_words)) × (put ≡ told)

-- The counts of faults, of the file and of the output, rise only where a fault of theirs is answered.
abbrev pub ReleaseCounts : Result (Unit {0}) ReleaseAnswer → ℕ → ℕ → ℕ → ℕ → Type 0
ReleaseCounts (Ok _) file output later_file later_output = (later_file ≡ file) × (later_output ≡ output)
ReleaseCounts (Err answer.NotKept) file output later_file later_output = later_output ≡ output
ReleaseCounts (Err answer.NotPut) file output later_file later_output = later_file ≡ file
ReleaseCounts (Err answer.Want) file output later_file later_output = (later_file ≡ file) × (later_output ≡ output)
