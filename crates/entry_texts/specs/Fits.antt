-- Which entries have a text that says them whole.
use Rattle.std.specs.Prelude.{ℕ, List, ◌<◌, ◌^◌, length, IsTrue, IfSome}
use Rattle.message_types.specs.Spelling.{has_spelling}
use Rattle.message_forms.specs.Widths.{Is32, Is64, FitsOp, FitsFields}
use Rattle.checked_frames.specs.Standing.{Ring, stands}
use Rattle.history_rules.specs.Events.{Event, Took, Tick, Command, Field, Poll, Cry, Skip, Restart, frame_taken}

-- bytes whose number fits 32 bits
abbrev pub IsShort : List ℕ → Type 0
IsShort bytes = length bytes < 2 ^ 32

-- Each number is within the field that it is written in, a frame has a spelling, and the bytes of a cry can be counted
-- in 32 bits. Of these only the last can fail for a value of the program's types.
abbrev pub FitsEvent : Event → Type 0
FitsEvent (Took stamp place frame) = Is64 stamp × (Is32 place × (FitsFields frame × IsTrue (has_spelling frame)))
FitsEvent Tick = Unit {0}
FitsEvent (Command op) = FitsOp op
FitsEvent (Field area place value) = (place < 2 ^ 16) × (value < 2 ^ 16)
FitsEvent Poll = Unit {0}
FitsEvent (Cry bytes) = IsShort bytes
FitsEvent Skip = Unit {0}
FitsEvent Restart = Unit {0}

abbrev pub FitsEntry : ℕ → Event → Type 0
FitsEntry stamp event = Is64 stamp × FitsEvent event

-- the bytes of a cry can be counted in 32 bits
abbrev pub HasCount : Event → Type 0
HasCount (Took stamp place frame) = Unit {0}
HasCount Tick = Unit {0}
HasCount (Command op) = Unit {0}
HasCount (Field area place value) = Unit {0}
HasCount Poll = Unit {0}
HasCount (Cry bytes) = IsShort bytes
HasCount Skip = Unit {0}
HasCount Restart = Unit {0}

-- a frame that the event takes stands
abbrev pub TakenStands : Ring → Event → Type 0
TakenStands ring event = IfSome (frame_taken event) (λ frame. IsTrue (stands ring frame))
