-- How a station begins with what its file has. (This project's own.)
use Rattle.std.specs.Prelude.{◌≡◌, ◌^◌, ◌≤◌, ℕ, List, Option, Some, None, Result, Ok, Err, length}
use Rattle.outside.specs.declared.files.LoadAnswer.{LoadAnswer}
use Rattle.outside.specs.declared.files.LoadAnswer.TheVariants as load
use Rattle.scenario_file.specs.Reading.{Contents}
use Rattle.world_rules.specs.Scenarios.{HasKey}
use Rattle.history_rules.specs.Events.{Entry}
use Rattle.kept_lines.specs.Lines.{kept_file}
use Rattle.kept_lines.specs.declared.refusal.KeptRefusal.{KeptRefusal}
use Rattle.kept_lines.specs.declared.refusal.KeptRefusal.TheVariants as kept
use Rattle.kept_lines.specs.Reading.{kept_in, Refuses}
use Rattle.station_files.specs.Held.{Held}
use Rattle.station_files.specs.WholeLines.{whole_lines}
use Rattle.stations.specs.declared.station.Station.{Station}
use Rattle.stations.specs.declared.beginning.BeginRefusal.{BeginRefusal}
use Rattle.stations.specs.declared.beginning.BeginRefusal.TheVariants as refusal

-- the entries that it begins with
abbrev pub begun_list : Result Station BeginRefusal → Result (List Entry) BeginRefusal
begun_list (Ok station) = Ok station.so_far.history
begun_list (Err e) = Err e

-- why it doesn't begin, be it that memory is wanting or that the file is no station's
abbrev pub not_loaded : LoadAnswer → BeginRefusal
not_loaded load.Want = refusal.Want
not_loaded other = refusal.NotLoaded other

abbrev pub not_read : KeptRefusal → BeginRefusal
not_read kept.Want = refusal.Want
not_read other = refusal.NotRead other

-- Want of memory is told as such, and as no refusal of the file.
abbrev pub TellsWant : BeginRefusal → Type 0
TellsWant (refusal.NotLoaded load.Want) = ⊥
TellsWant (refusal.NotRead kept.Want) = ⊥
TellsWant other = Unit {0}

-- It is told that the key that is held isn't the actor's where that is so, and nowhere else. Memory may be wanting before it
-- is known.
abbrev pub TellsKey : Contents → ℕ → Result Station BeginRefusal → Type 0
TellsKey c actor (Err refusal.OtherKey) = HasKey c actor → ⊥
TellsKey c actor (Err refusal.Want) = Unit {0}
TellsKey c actor other = HasKey c actor

-- It begins with the entries that the file's whole lines tell, and is refused for their first fault, or where the bytes are
-- more than are read.
abbrev pub BeginsWith : Contents → ℕ → List ℕ → Result (List Entry) BeginRefusal → Type 0
BeginsWith c actor bytes (Ok list) = kept_in c actor (whole_lines bytes) ≡ Ok list
BeginsWith c actor bytes (Err (refusal.NotRead e)) = Refuses e (kept_in c actor (whole_lines bytes))
BeginsWith c actor bytes (Err (refusal.NotLoaded load.TooLong)) = 2 ^ 32 ≤ length bytes
BeginsWith c actor bytes (Err other) = Unit {0}

-- What is kept of the entries is all that the file holds, and durable.
abbrev pub IsHeldWhole : Contents → List Entry → Option Held → Type 0
IsHeldWhole c list None = Unit {0}
IsHeldWhole c list (Some held) =
    held ≡ record { bytes = kept_file c list; durable = length (kept_file c list) }

-- So it is of a file that told what it held, and tells it still.
abbrev pub HoldsAll : Contents → List Entry → Option Held → Option Held → Type 0
HoldsAll c list None after = after ≡ None
HoldsAll c list (Some held) None = ⊥
HoldsAll c list (Some held) (Some now) = IsHeldWhole c list (Some now)

-- The file has its lines still: of what it held a torn line at most is cut off.
abbrev pub HasItsLines : Option Held → Option Held → Type 0
HasItsLines None after = after ≡ None
HasItsLines (Some held) None = ⊥
HasItsLines (Some held) (Some now) = whole_lines now.bytes ≡ whole_lines held.bytes
