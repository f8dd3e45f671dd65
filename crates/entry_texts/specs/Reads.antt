-- What was read of bytes: a value that they spell, all of them, or none, where no value that passes is spelled so.
use Rattle.std.specs.Prelude.{◌≡◌, ℕ, ℤ, ◌<◌, ◌^◌, List, [], ◌++◌, Option, Some, None, IsTrue, FitsSigned}
use Rattle.std.specs.Int.{w64}
use Rattle.std.specs.Borrow.{Bor}
use Rattle.wire_parts.specs.Fields.{u32_bytes, i64_bytes}
use Rattle.point_table.specs.declared.point.Area.{Area}
use Rattle.message_types.specs.declared.signed.Signed.{Signed}
use Rattle.message_types.specs.declared.body.Body.{Body}
use Rattle.message_types.specs.declared.updates.Op.{Op}
use Rattle.message_types.specs.Texts.{op_text, frame_text}
use Rattle.message_types.specs.Spelling.{has_spelling}
use Rattle.message_forms.specs.Widths.{Is32, Is64, FitsOp, FitsFields}
use Rattle.checked_frames.specs.Standing.{Ring, stands}
use Rattle.history_rules.specs.Events.{Event}
use Rattle.world_entries.specs.declared.entry.Event.{Event as KeptEvent}
use Rattle.world_entries.specs.Entries.{event_of}
use Rattle.entry_texts.specs.declared.fields.TakenFrame.{TakenFrame}
use Rattle.entry_texts.specs.declared.fields.Change.{Change}
use Rattle.entry_texts.specs.Texts.{area_number, counted_text, taken_text, change_text, event_text, entry_text}
use Rattle.entry_texts.specs.Fits.{IsShort, FitsEvent, FitsEntry, TakenStands}

-- no value that passes has this text
abbrev pub NoneSpells : {X : Type 0} → (X → List ℕ) → (X → Type 0) → List ℕ → Type 0
NoneSpells {X} text Passes bytes = (x : X) → Passes x → bytes ≡ text x → ⊥

-- a point and its value
abbrev pub ReadsPoint : List ℕ → Option (ℕ × ℤ) → Type 0
ReadsPoint bytes None =
    (point : ℕ) (value : ℤ) → Is32 point → FitsSigned w64 value → bytes ≡ u32_bytes point ++ i64_bytes value → ⊥
ReadsPoint bytes (Some p) = (bytes ≡ u32_bytes p.0 ++ i64_bytes p.1) × (Is32 p.0 × FitsSigned w64 p.1)

abbrev pub ReadsAlarm : List ℕ → Option ℕ → Type 0
ReadsAlarm bytes None = NoneSpells u32_bytes Is32 bytes
ReadsAlarm bytes (Some alarm) = (bytes ≡ u32_bytes alarm) × Is32 alarm

abbrev pub ReadsOp : List ℕ → Option Op → Type 0
ReadsOp bytes None = NoneSpells op_text FitsOp bytes
ReadsOp bytes (Some op) = (bytes ≡ op_text op) × FitsOp op

-- the number of an area
abbrev pub ReadsArea : ℕ → Option Area → Type 0
ReadsArea number None = (area : Area) → number ≡ area_number area → ⊥
ReadsArea number (Some area) = number ≡ area_number area

-- bytes behind their length
abbrev pub ReadsCounted : List ℕ → Option (Bor (List ℕ)) → Type 0
ReadsCounted bytes None = NoneSpells counted_text IsShort bytes
ReadsCounted bytes (Some piece) = (bytes ≡ counted_text piece.now) × IsShort piece.now

-- the text of a frame, with stamp and place
abbrev pub ReadsTaken : List ℕ → Option TakenFrame → Type 0
ReadsTaken bytes None =
    (stamp place : ℕ) (text : List ℕ) → Is64 stamp → Is32 place → IsShort text → bytes ≡ taken_text stamp place text → ⊥
ReadsTaken bytes (Some t) = (bytes ≡ taken_text t.stamp t.place t.text.now)
    × (Is64 t.stamp × (Is32 t.place × IsShort t.text.now))

abbrev pub ReadsChange : List ℕ → Option Change → Type 0
ReadsChange bytes None =
    (area : Area) (place value : ℕ) → place < 2 ^ 16 → value < 2 ^ 16 → bytes ≡ change_text area place value → ⊥
ReadsChange bytes (Some c) = (bytes ≡ change_text c.area c.place c.value) × ((c.place < 2 ^ 16) × (c.value < 2 ^ 16))

-- a frame, whether or not it stands
abbrev pub ReadsSpelled : List ℕ → Option (Signed Body) → Type 0
ReadsSpelled bytes None = NoneSpells frame_text (λ f. FitsFields f × IsTrue (has_spelling f)) bytes
ReadsSpelled bytes (Some f) = (bytes ≡ frame_text f) × (FitsFields f × IsTrue (has_spelling f))

-- a frame that stands
abbrev pub ReadsFrame : Ring → List ℕ → Option (Signed Body) → Type 0
ReadsFrame ring bytes None = NoneSpells frame_text (λ f. FitsFields f × IsTrue (stands ring f)) bytes
ReadsFrame ring bytes (Some f) = (bytes ≡ frame_text f) × (FitsFields f × IsTrue (stands ring f))

-- an event; a frame that it takes stands
abbrev pub ReadsEvent : Ring → List ℕ → Option KeptEvent → Type 0
ReadsEvent ring bytes None = NoneSpells event_text (λ e. FitsEvent e × TakenStands ring e) bytes
ReadsEvent ring bytes (Some e) = (bytes ≡ event_text (event_of e))
    × (FitsEvent (event_of e) × TakenStands ring (event_of e))

-- an event without fields
abbrev pub IsBare : List ℕ → KeptEvent → Option KeptEvent → Type 0
IsBare fields event None = fields ≡ [] → ⊥
IsBare fields event (Some e) = (fields ≡ []) × (e ≡ event)

-- a stamp and an event
abbrev pub ReadsEntry : Ring → List ℕ → Option (ℕ × KeptEvent) → Type 0
ReadsEntry ring bytes None =
    (stamp : ℕ) (event : Event) → FitsEntry stamp event → TakenStands ring event → bytes ≡ entry_text stamp event → ⊥
ReadsEntry ring bytes (Some e) =
    (bytes ≡ entry_text e.0 (event_of e.1)) × (FitsEntry e.0 (event_of e.1) × TakenStands ring (event_of e.1))

-- it is the entry with this stamp and this event
abbrev pub IsEntry : ℕ → Event → Option (ℕ × KeptEvent) → Type 0
IsEntry stamp event None = ⊥
IsEntry stamp event (Some e) = (e.0 ≡ stamp) × (event_of e.1 ≡ event)
