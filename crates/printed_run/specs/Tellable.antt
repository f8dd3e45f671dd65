-- What of a history its text can tell: numbers and bytes that are within the program's types. And what it tells: all, up
-- to where a frame came from that wasn't said where its entry tells. (This project's own.)
use Rattle.std.specs.Prelude.{ℕ, ◌-◌, ◌<◌, ◌^◌, Bool, true, false, if◌then◌else◌, List, map}
use Rattle.std.specs.List.{All}
use Rattle.message_types.specs.Texts.{frame_text}
use Rattle.message_forms.specs.Widths.{IsBytes, Is32, FitsFields, FitsOp}
use Rattle.history_rules.specs.Events.{Event, Took, Tick, Command, Field, Poll, Cry, Skip, Restart, Entry}
use Rattle.history_rules.specs.Setup.{Setup}
use Rattle.scenario_file.specs.Reading.{Contents}
use Rattle.world_rules.specs.Scenarios.{setup_of}
use Rattle.printed_run.specs.Printed.{is_said}

-- The numbers and bytes of an event's line are within the program's types: of a frame that is named by where it was
-- said that place, of one that is told by its bytes those.
abbrev pub CanBeTold : Bool → Event → Type 0
CanBeTold true (Took stamp place frame) = Is32 place
CanBeTold false (Took stamp place frame) = FitsFields frame × IsBytes (frame_text frame)
CanBeTold told Tick = Unit {0}
CanBeTold told (Command op) = FitsOp op
CanBeTold told (Field area place value) = (place < 2 ^ 16) × (value < 2 ^ 16)
CanBeTold told Poll = Unit {0}
CanBeTold told (Cry bytes) = IsBytes bytes
CanBeTold told Skip = Unit {0}
CanBeTold told Restart = Unit {0}

-- so it is of each entry of the history
abbrev pub AllCanBeTold : Setup → List Entry → Type 0
AllCanBeTold w history = All (λ e. CanBeTold (is_said w history e.event) e.event) history

-- A frame that is told by its bytes counts as said at the entry before, at a place that no body has.
abbrev pub told_by_bytes_at : ℕ → Event → Event
told_by_bytes_at stamp (Took at place frame) = Took (stamp - 1) 4294967295 frame
told_by_bytes_at stamp event = event

-- an entry of a history as the history's text tells it: its frame by where it was said, where it was said there
abbrev pub entry_as_told : Setup → List Entry → Entry → Entry
entry_as_told w history e =
    record e { event = if is_said w history e.event then e.event else told_by_bytes_at e.stamp e.event }

abbrev pub as_told : Contents → List Entry → List Entry
as_told c history = map (entry_as_told (setup_of c) history) history
