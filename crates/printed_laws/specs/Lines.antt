-- What the line of an entry says when it is read. (This project's own.)
use Rattle.std.specs.Prelude.{◌≡◌, ℕ, ◌<◌, ◌^◌, Bool, true, false, List, ◌++◌, Some, map}
use Rattle.message_types.specs.declared.signed.Signed.{Signed}
use Rattle.message_types.specs.declared.body.Body.{Body}
use Rattle.message_types.specs.Texts.{frame_text}
use Rattle.message_forms.specs.Widths.{IsBytes, Is32, Is64, FitsOp}
use Rattle.scenario_file.specs.declared.actors.Cast.{Cast}
use Rattle.scenario_file.specs.Actors.{actors_of}
use Rattle.history_rules.specs.Events.{Event, Took, Tick, Command, Field, Poll, Cry, Skip, Restart, Entry}
use Rattle.run_lines.specs.declared.event_line.EventLine.{EventLine}
use Rattle.run_lines.specs.declared.event_line.EventLine.TheVariants as line
use Rattle.run_lines.specs.declared.entry_line.EntryLine.{EntryLine}
use Rattle.run_lines.specs.Names.{kind_of}
use Rattle.run_lines.specs.Runs.{pieces, after_heads}

-- a frame by where it was said, or by its bytes
abbrev pub took_line : Bool → ℕ → ℕ → Signed Body → EventLine
took_line true stamp place frame = line.Said stamp place
took_line false stamp place frame = line.Frame (frame_text frame)

-- what the line of an event says
abbrev pub event_line : Bool → Event → EventLine
event_line told (Took stamp place frame) = took_line told stamp place frame
event_line told Tick = line.Tick
event_line told (Command o) = line.Command o
event_line told (Field a place value) = line.Field a place value
event_line told Poll = line.Poll
event_line told (Cry bytes) = line.Cry bytes
event_line told Skip = line.Skip
event_line told Restart = line.Restart

-- what the line of an entry says
abbrev pub line_read : Bool → Entry → EntryLine
line_read told e = record {
  stamp = e.stamp;
  actor = Some e.actor;
  event = event_line told e.event;
  kinds = map kind_of e.said;
}

-- The numbers and bytes that the line of an event has are within the program's types.
abbrev pub IsWritable : Bool → Event → Type 0
IsWritable true (Took stamp place frame) = Is64 stamp × Is32 place
IsWritable false (Took stamp place frame) = IsBytes (frame_text frame)
IsWritable told Tick = Unit {0}
IsWritable told (Command o) = FitsOp o
IsWritable told (Field a place value) = (place < 2 ^ 16) × (value < 2 ^ 16)
IsWritable told Poll = Unit {0}
IsWritable told (Cry bytes) = IsBytes bytes
IsWritable told Skip = Unit {0}
IsWritable told Restart = Unit {0}

-- The actor is there, and the entry's stamp and what its event has can be printed.
pub record IsPrintable (cast : Cast) (told : Bool) (e : Entry) : Type 0 where
  pub wide : Is64 e.stamp
  pub there : e.actor < actors_of cast
  pub event : IsWritable told e.event

-- Whole lines, none of which tells how many entries follow, are passed over.
abbrev pub IsPassed : List ℕ → Type 0
IsPassed text = (cast : Cast) (number : ℕ) (rest : List ℕ) →
    (more : ℕ) × (after_heads cast number (pieces (text ++ rest)) ≡ after_heads cast more (pieces rest))
