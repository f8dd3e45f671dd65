-- Bytes that are known to be what is kept of an entry, and an entry that spells them.
use Rattle.std.specs.Prelude.{◌≡◌, ℕ, List}
use Rattle.checked_frames.specs.Standing.{Ring}
use Rattle.history_rules.specs.Events.{Event}
use Rattle.entry_texts.specs.Texts.{event_text, entry_text}
use Rattle.entry_texts.specs.Fits.{FitsEvent, FitsEntry, TakenStands}

-- The bytes are those of an event that fits; a frame that it takes stands in some ring.
pub record IsKeptEvent (bytes : List ℕ) : Type 0 where
  pub event : Event
  pub fits : FitsEvent event
  pub ring : Ring
  pub stands : TakenStands ring event
  pub is : bytes ≡ event_text event

-- The bytes are what is kept of an entry that fits; a frame that it takes stands in some ring.
pub record IsKept (bytes : List ℕ) : Type 0 where
  pub stamp : ℕ
  pub event : Event
  pub fits : FitsEntry stamp event
  pub ring : Ring
  pub stands : TakenStands ring event
  pub is : bytes ≡ entry_text stamp event

-- the event's bytes are these
abbrev pub SpellsEvent : List ℕ → Event → Type 0
SpellsEvent bytes event = (bytes ≡ event_text event) × FitsEvent event
