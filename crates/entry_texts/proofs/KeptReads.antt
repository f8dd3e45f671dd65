-- What is read of bytes that are known to be kept: the entry whose bytes they are, so that no reading finds nothing,
-- and the frame that is read is the one that stands.
use Rattle.std.proofs.Common.{◌≡◌, ◌<◌, ◌≤◌, ◌^◌, ℕ, List, [], ◌∷◌, ◌++◌, length, refl, sym, ap, ◌∙◌, subst, arith}
use Rattle.std.specs.Prelude.{IsTrue, Option, None, Some}
use Rattle.wire_parts.specs.View.{View, Takes}
use Rattle.wire_parts.specs.Fields.{u8_bytes, u64_bytes}
use Rattle.wire_parts.specs.FieldLaws.{u64_bytes-inj}
use Rattle.message_types.specs.declared.signed.Signed.{Signed}
use Rattle.message_types.specs.declared.body.Body.{Body}
use Rattle.message_types.specs.Texts.{frame_text}
use Rattle.message_types.specs.Spelling.{has_spelling}
use Rattle.message_forms.specs.Widths.{Is32, Is64, FitsFields}
use Rattle.checked_frames.specs.Standing.{Ring, StandsSomewhere}
use Rattle.history_rules.specs.Events.{Event, Took, Tick, Command, Field, Poll, Cry, Skip, Restart}
use Rattle.world_entries.specs.declared.entry.Event.{Event as KeptEvent}
use Rattle.world_entries.specs.Entries.{event_of}
use Rattle.entry_texts.specs.Texts.{taken_text, event_text, entry_text}
use Rattle.entry_texts.specs.Fits.{IsShort, FitsEvent, FitsEntry, TakenStands}
use Rattle.entry_texts.specs.KeptEntries.{IsKeptEvent, IsKept, SpellsEvent}
use Rattle.entry_texts.specs.Reads.{ReadsTaken, ReadsSpelled, ReadsEvent}
use Rattle.entry_texts.proofs.TextLaws.{same_first, same_rest, taken-inj, frame_short, frame-inj}
use Rattle.entry_texts.proofs.EventReads.{no_entry_stamp}

-- the fields of a frame taken
pub record IsTook (rest : List ℕ) : Type 0 where
  pub stamp : ℕ
  pub place : ℕ
  pub frame : Signed Body
  pub stamp_fits : Is64 stamp
  pub place_fits : Is32 place
  pub wide : FitsFields frame
  pub spelled : IsTrue (has_spelling frame)
  pub stands : StandsSomewhere frame
  pub is : rest ≡ taken_text stamp place (frame_text frame)

took_of : (rest : List ℕ) (event : Event) (ring : Ring) → FitsEvent event → TakenStands ring event →
    1 ∷ rest ≡ event_text event → IsTook rest
took_of rest (Took s p f) ring fits stands is = record {
  stamp = s;
  place = p;
  frame = f;
  stamp_fits = fits.0;
  place_fits = fits.1.0;
  wide = fits.1.1.0;
  spelled = fits.1.1.1;
  stands = record { ring = ring; is_standing = stands };
  is = same_rest is;
}
took_of rest event ring fits stands is = absurd (let other = same_first is in omega arith)

pub kept_took : (rest : List ℕ) → IsKeptEvent (1 ∷ rest) → IsTook rest
kept_took rest kept = took_of rest kept.event kept.ring kept.fits kept.stands kept.is

pub some_taken : (rest : List ℕ) → IsKeptEvent (1 ∷ rest) → ReadsTaken rest None → ⊥
some_taken rest kept none =
    let took = kept_took rest kept in
    none took.stamp took.place (frame_text took.frame) took.stamp_fits took.place_fits
    (frame_short took.frame took.wide took.spelled) took.is

-- the text that was read is that of the frame
text_is : (rest : List ℕ) (took : IsTook rest) (s p : ℕ) (text : List ℕ) → rest ≡ taken_text s p text →
    Is64 s → Is32 p → IsShort text
    → text ≡ frame_text took.frame
text_is rest took s p text is fs fp ft =
    (taken-inj s p took.stamp took.place text (frame_text took.frame) [] [] fs took.stamp_fits fp took.place_fits ft
    (frame_short took.frame took.wide took.spelled) (ap (λ r. r ++ []) (sym is ∙ took.is))).2

pub some_frame : (rest : List ℕ) → IsKeptEvent (1 ∷ rest) → (s p : ℕ) (text : List ℕ) → rest ≡ taken_text s p text →
    Is64 s → Is32 p → IsShort text
    → ReadsSpelled text None → ⊥
some_frame rest kept s p text is fs fp ft none =
    let took = kept_took rest kept in none took.frame (took.wide, took.spelled) (text_is rest took s p text is fs fp ft)

pub frame_stands : (rest : List ℕ) → IsKeptEvent (1 ∷ rest) → (s p : ℕ) (text : List ℕ) (f : Signed Body) →
    rest ≡ taken_text s p text → Is64 s
    → Is32 p → IsShort text → ReadsSpelled text (Some f) → StandsSomewhere f
frame_stands rest kept s p text f is fs fp ft found =
    let took = kept_took rest kept in
    subst StandsSomewhere
    (frame-inj took.frame f took.wide found.1.0 took.spelled found.1.1
    (sym (text_is rest took s p text is fs fp ft) ∙ found.0))
    took.stands

pub took_spells : (rest : List ℕ) (s p : ℕ) (text : List ℕ) (f : Signed Body) →
    rest ≡ taken_text s p text → Is64 s → Is32 p
    → ReadsSpelled text (Some f) → SpellsEvent (1 ∷ rest) (Took s p f)
took_spells rest s p text f is fs fp found =
    (ap (λ r. 1 ∷ r) (is ∙ ap (taken_text s p) found.0), (fs, (fp, (found.1.0, found.1.1))))

-- an event has a kind, and is read
some_bytes : (event : Event) → 1 ≤ length (event_text event)
some_bytes (Took s p f) = omega arith
some_bytes Tick = omega arith
some_bytes (Command o) = omega arith
some_bytes (Field a p v) = omega arith
some_bytes Poll = omega arith
some_bytes (Cry bytes) = omega arith
some_bytes Skip = omega arith
some_bytes Restart = omega arith

pub some_kind : (bytes : List ℕ) → IsKeptEvent bytes → length bytes < 1 → ⊥
some_kind bytes kept less = omega (arith, ap length kept.is, some_bytes kept.event)

pub behind_kind : (v w : View) (kind : ℕ) → Takes v w (u8_bytes kind) → IsKeptEvent v.rest → IsKeptEvent (kind ∷ w.rest)
behind_kind v w kind takes kept = subst IsKeptEvent takes.bytes kept

pub some_event : (bytes : List ℕ) → IsKeptEvent bytes → ((ring : Ring) → ReadsEvent ring bytes None) → ⊥
some_event bytes kept none = none kept.ring kept.event (kept.fits, kept.stands) kept.is

pub other_spells : (ring : Ring) (v w : View) (kind : ℕ) (e : KeptEvent) → Takes v w (u8_bytes kind) →
    ReadsEvent ring (kind ∷ w.rest) (Some e)
    → SpellsEvent v.rest (event_of e)
other_spells ring v w kind e takes found = (takes.bytes ∙ found.0, found.1.0)

-- an entry has a stamp, and its event is behind it
pub some_stamp : (bytes : List ℕ) → IsKept bytes → length bytes < 8 → ⊥
some_stamp bytes kept less = no_entry_stamp kept.ring bytes less kept.stamp kept.event kept.fits kept.stands kept.is

pub behind_stamp : (v w : View) (stamp : ℕ) → stamp < 2 ^ 64 → Takes v w (u64_bytes stamp) →
    IsKept v.rest → IsKeptEvent w.rest
behind_stamp v w stamp fits takes kept = record {
  event = kept.event;
  fits = kept.fits.1;
  ring = kept.ring;
  stands = kept.stands;
  is = (u64_bytes-inj stamp kept.stamp w.rest (event_text kept.event) fits kept.fits.0 (sym takes.bytes ∙ kept.is)).1;
}
