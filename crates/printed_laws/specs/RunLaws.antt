-- What it is that a printed run is read back. (This project's own.)
use Rattle.std.specs.Prelude.{◌≡◌, ◌<◌, ◌^◌, List, Ok, length}
use Rattle.std.specs.List.{All}
use Rattle.message_types.specs.Texts.{frame_text}
use Rattle.message_forms.specs.Widths.{IsBytes}
use Rattle.scenario_file.specs.Reading.{Contents}
use Rattle.scenario_file.specs.Valid.{IsScenario}
use Rattle.history_rules.specs.Events.{Event, Took, Cry, Entry}
use Rattle.history_rules.specs.Legal.{IsLegal}
use Rattle.entry_texts.specs.Fits.{FitsEntry}
use Rattle.world_rules.specs.Scenarios.{setup_of}
use Rattle.printed_run.specs.Printed.{text_of}
use Rattle.printed_run.specs.Tellable.{AllCanBeTold, as_told}
use Rattle.printed_history.specs.Histories.{history_in}

-- what an event holds as bytes is bytes
abbrev pub HasBytes : Event → Type 0
HasBytes (Took stamp place frame) = IsBytes (frame_text frame)
HasBytes (Cry bytes) = IsBytes bytes
HasBytes _ = Unit {0}

-- An entry that a value of the program can be: its numbers are within their fields, and fewer than 2^31 bodies were
-- said at it.
pub record IsHeld (e : Entry) : Type 0 where
  pub fits : FitsEntry e.stamp e.event
  pub bytes : HasBytes e.event
  pub few : length e.said < 2 ^ 31

-- The text of a history tells the history, up to where its frames come from, and what is read is printed as the same
-- text.
pub record ReadsBack (c : Contents) (history : List Entry) : Type 0 where
  pub read : history_in c (text_of c history) ≡ Ok (as_told c history)
  pub again : text_of c (as_told c history) ≡ text_of c history

-- A legal history that the program can hold reads back.
abbrev pub PrintedRunsReadBack : Type 0
PrintedRunsReadBack = (c : Contents) (history : List Entry) → IsScenario c → IsLegal (setup_of c) history →
    All IsHeld history → length history < 2 ^ 32
    → ReadsBack c history

-- A legal history whose lines' numbers and bytes are within the program's types is told by its text.
abbrev pub TextsTellHistories : Type 0
TextsTellHistories = (c : Contents) (history : List Entry) → IsScenario c → IsLegal (setup_of c) history →
    length history < 2 ^ 32
    → AllCanBeTold (setup_of c) history →
    history_in c (text_of c history) ≡ Ok (as_told c history)
