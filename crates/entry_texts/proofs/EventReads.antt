-- What is read of a frame, of an event's fields behind the number of its kind, and of an entry.
use Rattle.std.proofs.Common.{◌≡◌, ◌<◌, ◌^◌, ℕ, List, [], ◌∷◌, ◌++◌, length, refl, sym, ap, ◌∙◌, subst, arith}
use Rattle.std.proofs.Common.{length-append}
use Rattle.std.specs.Prelude.{IsTrue, IfOk, Option, None, Some, Result, Ok, Err}
use Rattle.plain_lists.specs.declared.want.Want.{Want}
use Rattle.wire_parts.specs.View.{View, Takes}
use Rattle.wire_parts.specs.Fields.{u64_bytes}
use Rattle.wire_parts.specs.FieldLaws.{length-u64_bytes, u64_bytes-inj}
use Rattle.message_types.specs.declared.signed.Signed.{Signed}
use Rattle.message_types.specs.declared.body.Body.{Body}
use Rattle.message_types.specs.Texts.{frame_text}
use Rattle.message_types.specs.Spelling.{has_spelling}
use Rattle.message_forms.specs.Forms.{first_fault as form_fault}
use Rattle.message_forms.specs.Gives.{Answers}
use Rattle.message_forms.specs.Widths.{IsBytes, Is32, Is64, FitsFields}
use Rattle.message_forms.proofs.Spells.{ok_inj}
use Rattle.message_forms.proofs.FrameLaws.{no_prefix, no_fault}
use Rattle.checked_frames.specs.declared.refusal.CheckRefusal.{CheckRefusal}
use Rattle.checked_frames.specs.declared.refusal.CheckRefusal.TheVariants as refusal
use Rattle.checked_frames.specs.Standing.{Ring, first_fault, IsFault}
use Rattle.checked_frames.proofs.StandingLaws.{stands_spelled, stands_faultless}
use Rattle.history_rules.specs.Events.{Event, Took}
use Rattle.world_entries.specs.declared.entry.Event.{Event as KeptEvent}
use Rattle.world_entries.specs.declared.entry.Event.TheVariants as kept
use Rattle.world_entries.specs.Entries.{event_of}
use Rattle.entry_texts.specs.Texts.{taken_text, event_text, entry_text}
use Rattle.entry_texts.specs.Fits.{IsShort, FitsEntry, TakenStands}
use Rattle.entry_texts.specs.Reads.{ReadsTaken, ReadsSpelled, ReadsFrame, ReadsEvent, ReadsEntry, IsEntry}
use Rattle.entry_texts.proofs.TextLaws.{same_first, same_rest, taken-inj, frame_short, entry-inj}

-- a frame

pub spelled_is : (text : List ℕ) (f : Signed Body) → IsBytes text → form_fault text ≡ None → text ≡ frame_text f
    → IsTrue (has_spelling f)
    → ((g : Signed Body) → FitsFields g → IsTrue (has_spelling g) → text ≡ frame_text g → Answers (Ok f) (Ok g))
    → ReadsSpelled text (Some f)
spelled_is text f bytes none is spelled only =
    let q = no_fault text bytes none in
    let same : q.0 ≡ f = ok_inj (only q.0 q.1 q.2 q.3) in
    (is, (subst FitsFields same q.1, spelled))

pub none_stands : (ring : Ring) (text : List ℕ) → ReadsSpelled text None → ReadsFrame ring text None
none_stands ring text none = λ f fits is. none f (fits.0, stands_spelled ring f fits.1) is

faulty : (r : CheckRefusal) (first : Option CheckRefusal) → (r ≡ refusal.Want → ⊥) → IsFault r first → first ≡ None → ⊥
faulty refusal.Want first other h none = other refl
faulty (refusal.SignerUnknown signer) first other h none = absurd (cc)
faulty (refusal.Unsigned part) first other h none = absurd (cc)
faulty (refusal.Misplaced part) first other h none = absurd (cc)

pub fault_is_none : (ring : Ring) (text : List ℕ) (f : Signed Body) (r : CheckRefusal) → (r ≡ refusal.Want → ⊥)
    → IsFault r (first_fault ring f) → ReadsSpelled text (Some f) → ReadsFrame ring text None
fault_is_none ring text f r other h found = λ g fits is.
    let same : f ≡ g = (no_prefix f g [] [] found.1.0 fits.0 found.1.1 (stands_spelled ring g fits.1)
    (ap (λ t. t ++ []) (sym found.0 ∙ is))).0 in
    faulty r (first_fault ring f) other h (ap (first_fault ring) same ∙ stands_faultless ring g fits.1)

pub refusal_is_none : (ring : Ring) (text : List ℕ) (f : Signed Body) (r : CheckRefusal)
    (answer : Result (Option (Signed Body)) Want)
    → IfOk answer (λ read. (read ≡ None) × (r ≡ refusal.Want → ⊥)) → IsFault r (first_fault ring f) →
    ReadsSpelled text (Some f)
    → IfOk answer (ReadsFrame ring text)
refusal_is_none ring text f r (Ok read) h fault found =
    subst (λ x. ReadsFrame ring text x) (sym h.0) (fault_is_none ring text f r h.1 fault found)
refusal_is_none ring text f r (Err e) h fault found = tt

-- kind 1

pub no_taken : (ring : Ring) (rest : List ℕ) → ReadsTaken rest None → ReadsEvent ring (1 ∷ rest) None
no_taken ring rest none (Took s p f) fits e =
    none s p (frame_text f) fits.0.0 fits.0.1.0 (frame_short f fits.0.1.1.0 fits.0.1.1.1) (same_rest e)
no_taken ring rest none x fits e = let other = same_first e in omega arith

pub no_frame : (ring : Ring) (rest : List ℕ) (s p : ℕ) (text : List ℕ) → rest ≡ taken_text s p text →
    Is64 s → Is32 p → IsShort text
    → ReadsFrame ring text None → ReadsEvent ring (1 ∷ rest) None
no_frame ring rest s p text is fs fp ft none (Took s' p' f) fits e =
    let parts = taken-inj s p s' p' text (frame_text f) [] [] fs fits.0.0 fp fits.0.1.0 ft
    (frame_short f fits.0.1.1.0 fits.0.1.1.1) (ap (λ r. r ++ []) (sym is ∙ same_rest e)) in
    none f (fits.0.1.1.0, fits.1) parts.2
no_frame ring rest s p text is fs fp ft none x fits e = let other = same_first e in omega arith

pub took_is : (ring : Ring) (rest : List ℕ) (s p : ℕ) (text : List ℕ) (f : Signed Body) →
    rest ≡ taken_text s p text → Is64 s → Is32 p
    → ReadsFrame ring text (Some f) → ReadsEvent ring (1 ∷ rest) (Some (kept.Took s p f))
took_is ring rest s p text f is fs fp found = (
  ap (λ r. 1 ∷ r) (is ∙ ap (taken_text s p) found.0),
  ((fs, (fp, (found.1.0, stands_spelled ring f found.1.1))), found.1.1),
)

-- an event, by the number of its kind

-- an entry

pub no_entry_stamp : (ring : Ring) (rest : List ℕ) → length rest < 8 → ReadsEntry ring rest None
no_entry_stamp ring rest less = λ stamp event fits stand e.
    omega (arith, ap length e, length-append (u64_bytes stamp) (event_text event), length-u64_bytes stamp)

pub no_entry_event : (ring : Ring) (v w : View) (n : ℕ) → n < 2 ^ 64 → Takes v w (u64_bytes n) →
    ReadsEvent ring w.rest None
    → ReadsEntry ring v.rest None
no_entry_event ring v w n fit takes none = λ stamp event fits stand e.
    none event (fits.1, stand) (u64_bytes-inj n stamp w.rest (event_text event) fit fits.0 (sym takes.bytes ∙ e)).1

-- what a reader answers, in the words of its contract

pub answer_only : (ring : Ring) (bytes : List ℕ) (r : Result (Option (ℕ × KeptEvent)) Want) →
    IfOk r (ReadsEntry ring bytes)
    → (stamp : ℕ) (event : Event) → FitsEntry stamp event → TakenStands ring event → bytes ≡ entry_text stamp event
    → IfOk r (IsEntry stamp event)
answer_only ring bytes (Ok (Some x)) h stamp event fits stand is =
    let same = entry-inj x.0 stamp (event_of x.1) event [] [] h.1.0 fits (ap (λ t. t ++ []) (sym h.0 ∙ is)) in
    (same.0, same.1)
answer_only ring bytes (Ok None) h stamp event fits stand is = h stamp event fits stand is
answer_only ring bytes (Err e) h stamp event fits stand is = tt
