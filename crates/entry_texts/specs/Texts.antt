-- How an entry is kept as bytes (this project's own): its stamp, the number of its event's kind, and the event's
-- fields, each number big-endian. Its actor isn't in them, since each actor keeps a list of its own, and neither is
-- what it said, which the rules give for its list.
use Rattle.std.specs.Prelude.{ℕ, List, ◌++◌, length}
use Rattle.wire_parts.specs.Fields.{u8_bytes, u16_bytes, u32_bytes, u64_bytes}
use Rattle.point_table.specs.declared.point.Area.{Area}
use Rattle.point_table.specs.declared.point.Area.TheVariants as area
use Rattle.message_types.specs.Texts.{op_text, frame_text}
use Rattle.history_rules.specs.Events.{Event, Entry, Took, Tick, Command, Field, Poll, Cry, Skip, Restart}

-- the number of an area
abbrev pub area_number : Area → ℕ
area_number area.Coil = 1
area_number area.Discrete = 2
area_number area.Holding = 3
area_number area.Input = 4

-- bytes behind their length
abbrev pub counted_text : List ℕ → List ℕ
counted_text bytes = u32_bytes (length bytes) ++ bytes

-- a frame's text as it was taken: said at this stamp, as this body of its entry
abbrev pub taken_text : ℕ → ℕ → List ℕ → List ℕ
taken_text stamp place text = u64_bytes stamp ++ (u32_bytes place ++ counted_text text)

-- a change in a proxy's field
abbrev pub change_text : Area → ℕ → ℕ → List ℕ
change_text area place value = u8_bytes (area_number area) ++ (u16_bytes place ++ u16_bytes value)

-- the number of the kind, and the fields
abbrev pub event_text : Event → List ℕ
event_text (Took stamp place frame) = u8_bytes 1 ++ taken_text stamp place (frame_text frame)
event_text Tick = u8_bytes 2
event_text (Command op) = u8_bytes 3 ++ op_text op
event_text (Field area place value) = u8_bytes 4 ++ change_text area place value
event_text Poll = u8_bytes 5
event_text (Cry bytes) = u8_bytes 6 ++ counted_text bytes
event_text Skip = u8_bytes 7
event_text Restart = u8_bytes 8

-- the bytes of an entry with this stamp and this event
abbrev pub entry_text : ℕ → Event → List ℕ
entry_text stamp event = u64_bytes stamp ++ event_text event

-- what is kept of an entry
abbrev pub kept_text : Entry → List ℕ
kept_text e = entry_text e.stamp e.event
