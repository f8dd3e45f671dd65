-- The entries of a history: one event of one actor each, with the bodies that the actor said at it. (This project's
-- own.)
use Rattle.std.specs.Prelude.{ℕ, Bool, true, false, List, Option, Some, None}
use Rattle.message_types.specs.declared.signed.Signed.{Signed}
use Rattle.message_types.specs.declared.updates.Op.{Op}
use Rattle.message_types.specs.declared.body.Body.{Body}
use Rattle.point_table.specs.declared.point.Area.{Area}

pub data Event : Type 0 where
  -- a frame, said at this stamp as body number `place` of its entry
  Took : (stamp place : ℕ) (frame : Signed Body) → Event
  Tick : Event
  -- an operator's command at a screen
  Command : Op → Event
  -- a change in a proxy's field
  Field : Area → ℕ → ℕ → Event
  -- a proxy reads its points
  Poll : Event
  -- bytes of an intruded master
  Cry : List ℕ → Event
  -- a stamp that was drawn and not used
  Skip : Event
  -- the actor is made anew from what was kept
  Restart : Event

pub record Entry : Type 0 where
  pub stamp : ℕ
  pub actor : ℕ
  pub event : Event
  pub said : List Body

-- the frame that an event takes
abbrev pub frame_taken : Event → Option (Signed Body)
frame_taken (Took stamp place frame) = Some frame
frame_taken _ = None

abbrev pub is_tick : Event → Bool
is_tick Tick = true
is_tick _ = false

-- at these the actor hears nothing and says nothing
abbrev pub is_silent : Event → Bool
is_silent Skip = true
is_silent Restart = true
is_silent _ = false

abbrev pub is_restart : Event → Bool
is_restart Restart = true
is_restart _ = false
