-- What an entry teaches an intruded master.
use Rattle.std.proofs.Common.{◌≡◌, ℕ, List, [], ◌∷◌, ◌++◌, Some, None, Result, Ok, Err, IsTrue, refl, ◌∙◌, ap}
use Rattle.std.proofs.Common.{append-nil}
use Rattle.std.specs.List.{flat_map}
use Rattle.std.proofs.lemmas.Grind.{flat_map-append}
use Rattle.message_types.specs.declared.signed.Signed.{Signed}
use Rattle.message_types.specs.declared.body.Body.{Body}
use Rattle.message_types.specs.Parts.{parts}
use Rattle.message_forms.specs.declared.refusal.FormRefusal.{FormRefusal}
use Rattle.message_forms.specs.declared.refusal.FormRefusal.TheVariants as fault
use Rattle.message_types.specs.Texts.{frame_text}
use Rattle.message_forms.specs.Forms.{frame_at, fault_in, first_fault}
use Rattle.message_forms.specs.Gives.{Answers, IsFault}
use Rattle.message_forms.specs.Widths.{IsBytes, FitsFields}
use Rattle.message_forms.proofs.FrameLaws.{no_fault, frame_back}
use Rattle.message_types.specs.Spelling.{has_spelling}
use Rattle.protocol_rules.specs.Master.{taken_frames}
use Rattle.history_rules.specs.Events.{Event, Entry, Took, Cry, frame_taken}
use Rattle.world_rules.specs.Frames.{cried, overheard}

taught : Entry → List (Signed Body)
taught e = flat_map parts (taken_frames (frame_taken e.event) ++ cried e.event)

pub more : (own : List Entry) (e : Entry) → overheard (own ++ e ∷ []) ≡ overheard own
    ++ flat_map parts (taken_frames (frame_taken e.event) ++ cried e.event)
unfolding overheard taught
more own e = flat_map-append taught own (e ∷ []) ∙ ap (λ fs. flat_map taught own ++ fs) (append-nil (taught e))

pub took : (own : List Entry) (e : Entry) (stamp place : ℕ) (f : Signed Body) → e.event ≡ Took stamp place f →
    overheard (own ++ e ∷ []) ≡ overheard own ++ parts f
took own e stamp place f is =
    more own e ∙ ap (λ (event : Event). overheard own
    ++ flat_map parts (taken_frames (frame_taken event) ++ cried event)) is
    ∙ ap (λ fs. overheard own ++ fs) (append-nil (parts f))

pub cried-own : (own : List Entry) (e : Entry) (bytes : List ℕ) → e.event ≡ Cry bytes →
    overheard (own ++ e ∷ []) ≡ overheard own ++ flat_map parts (cried (Cry bytes))
cried-own own e bytes is =
    more own e ∙ ap (λ (event : Event). overheard own
    ++ flat_map parts (taken_frames (frame_taken event) ++ cried event)) is

pub others : (own : List Entry) (e : Entry) → frame_taken e.event ≡ None → cried e.event ≡ [] →
    overheard (own ++ e ∷ []) ≡ overheard own
others own e no_frame no_cry =
    more own e ∙ ap (λ o. overheard own ++ flat_map parts (taken_frames o ++ cried e.event)) no_frame
    ∙ ap (λ fs. overheard own ++ flat_map parts fs) no_cry ∙ append-nil (overheard own)

-- the bytes of a cry, read

pub read-found : (bytes : List ℕ) (f : Signed Body) → IsBytes bytes → first_fault bytes ≡ None
    → ((g : Signed Body) → FitsFields g → IsTrue (has_spelling g) → bytes ≡ frame_text g → Answers (Ok f) (Ok g)) →
    frame_at bytes ≡ Ok f
read-found bytes f ok none only = let q = no_fault bytes ok none in
    frame_back q.0 bytes q.1 q.2 q.3 ∙ only q.0 q.1 q.2 q.3

pub fault-found : (bytes : List ℕ) (refusal : FormRefusal) → (refusal ≡ fault.Want → ⊥) →
    IsFault refusal (first_fault bytes) → first_fault bytes ≡ Some refusal
fault-found bytes fault.Want other is = absurd (other refl)
fault-found bytes (fault.Short place) other is = is
fault-found bytes (fault.Trailing place) other is = is
fault-found bytes (fault.UnknownKind place) other is = is
fault-found bytes (fault.TooMany place) other is = is
fault-found bytes (fault.BadOrder place) other is = is
fault-found bytes (fault.TooLong place) other is = is

pub read-cry : (bytes : List ℕ) (f : Signed Body) → frame_at bytes ≡ Ok f → flat_map parts (cried (Cry bytes)) ≡ parts f
read-cry bytes f is = ap (λ (read : Result (Signed Body) FormRefusal). flat_map parts
    (elim read [ Ok f ↦ f ∷ [] | Err e ↦ [] ])) is ∙ append-nil (parts f)

pub no-cry : (bytes : List ℕ) (refusal : FormRefusal) → first_fault bytes ≡ Some refusal →
    flat_map parts (cried (Cry bytes)) ≡ []
unfolding first_fault
no-cry bytes refusal is = by (frame_at bytes) is
  where
    by : (read : Result (Signed Body) FormRefusal) → fault_in read ≡ Some refusal →
        flat_map parts (elim read [ Ok f ↦ f ∷ [] | Err e ↦ [] ]) ≡ []
    by (Ok f) e = absurd (cc)
    by (Err other) e = refl
