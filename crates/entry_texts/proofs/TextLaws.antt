-- No text of an entry begins another one's. One law for each piece of the format.
use Rattle.std.proofs.Common.{◌≡◌, ◌<◌, ◌^◌, ℕ, List, [], ◌∷◌, ◌++◌, length, take, drop, refl, sym, ap, ◌∙◌, arith}
use Rattle.std.proofs.Common.{append_assoc}
use Rattle.std.specs.Prelude.{IsTrue}
use Rattle.std.proofs.lemmas.List.{take_at, drop_at}
use Rattle.wire_parts.specs.Fields.{u16_bytes, u32_bytes, u64_bytes}
use Rattle.wire_parts.specs.FieldLaws.{u16_bytes-inj, u32_bytes-inj, u64_bytes-inj}
use Rattle.point_table.specs.declared.point.Area.{Area}
use Rattle.point_table.specs.declared.point.Area.TheVariants as area
use Rattle.message_types.specs.declared.updates.Op.{Op}
use Rattle.message_types.specs.declared.signed.Signed.{Signed}
use Rattle.message_types.specs.declared.body.Body.{Body}
use Rattle.message_types.specs.Texts.{op_text, frame_text}
use Rattle.message_types.specs.Spelling.{has_spelling}
use Rattle.message_forms.specs.Forms.{op_at}
use Rattle.message_forms.specs.Grammar.{at}
use Rattle.message_forms.specs.Widths.{Is32, Is64, FitsOp, FitsFields}
use Rattle.message_forms.proofs.Spells.{ok_inj}
use Rattle.message_forms.proofs.SpellsWords.{Spells-op}
use Rattle.message_forms.proofs.FrameLaws.{no_prefix}
use Rattle.message_forms.proofs.Lengths.{frame_within}
use Rattle.history_rules.specs.Events.{Event, Took, Tick, Command, Field, Poll, Cry, Skip, Restart}
use Rattle.entry_texts.specs.Texts.{area_number, counted_text, taken_text, change_text, event_text, entry_text}
use Rattle.entry_texts.specs.Fits.{IsShort, FitsEvent, FitsEntry, HasCount}

pub same_first : {x y : ℕ} {xs ys : List ℕ} → x ∷ xs ≡ y ∷ ys → x ≡ y
same_first h = cc

pub same_rest : {x y : ℕ} {xs ys : List ℕ} → x ∷ xs ≡ y ∷ ys → xs ≡ ys
same_rest h = cc

-- bytes of one length in front, and what follows them
same_front : (n : ℕ) (a b xs ys : List ℕ) → length a ≡ n → length b ≡ n → a ++ xs ≡ b ++ ys → (a ≡ b) × (xs ≡ ys)
same_front n a b xs ys la lb e = (
  sym (take_at a xs n la) ∙ ap (take n) e ∙ take_at b ys n lb,
  sym (drop_at a xs n la) ∙ ap (drop n) e ∙ drop_at b ys n lb,
)

pub counted-inj : (a b xs ys : List ℕ) → IsShort a → IsShort b → counted_text a ++ xs ≡ counted_text b ++ ys →
    (a ≡ b) × (xs ≡ ys)
counted-inj a b xs ys fa fb e =
    let e : u32_bytes (length a) ++ (a ++ xs) ≡ u32_bytes (length b) ++ (b ++ ys) =
    sym (append_assoc (u32_bytes (length a)) a xs) ∙ e ∙ append_assoc (u32_bytes (length b)) b ys in
    let count = u32_bytes-inj (length a) (length b) (a ++ xs) (b ++ ys) fa fb e in
    same_front (length b) a b xs ys count.0 refl count.1

taken_apart : (s p : ℕ) (t xs : List ℕ) → taken_text s p t ++ xs ≡ u64_bytes s
    ++ (u32_bytes p ++ (counted_text t ++ xs))
taken_apart s p t xs =
    append_assoc (u64_bytes s) (u32_bytes p ++ counted_text t) xs
    ∙ ap (λ r. u64_bytes s ++ r) (append_assoc (u32_bytes p) (counted_text t) xs)

pub taken-inj : (s p s' p' : ℕ) (t t' xs ys : List ℕ) → Is64 s → Is64 s' → Is32 p → Is32 p' → IsShort t → IsShort t'
    → taken_text s p t ++ xs ≡ taken_text s' p' t' ++ ys → (s ≡ s') × (p ≡ p') × (t ≡ t') × (xs ≡ ys)
taken-inj s p s' p' t t' xs ys fs fs' fp fp' ft ft' e =
    let stamp = u64_bytes-inj s s' (u32_bytes p ++ (counted_text t ++ xs))
    (u32_bytes p' ++ (counted_text t' ++ ys)) fs fs'
    (sym (taken_apart s p t xs) ∙ e ∙ taken_apart s' p' t' ys) in
    let place = u32_bytes-inj p p' (counted_text t ++ xs) (counted_text t' ++ ys) fp fp' stamp.1 in
    let text = counted-inj t t' xs ys ft ft' place.1 in
    (stamp.0, place.0, text.0, text.1)

pub area-inj : (a b : Area) → area_number a ≡ area_number b → a ≡ b
area-inj area.Coil area.Coil e = refl
area-inj area.Discrete area.Discrete e = refl
area-inj area.Holding area.Holding e = refl
area-inj area.Input area.Input e = refl
area-inj a b e = absurd (omega arith)

change_apart : (a : Area) (p v : ℕ) (xs : List ℕ) → change_text a p v ++ xs ≡ area_number a
    ∷ (u16_bytes p ++ (u16_bytes v ++ xs))
change_apart a p v xs = ap (λ r. area_number a ∷ r) (append_assoc (u16_bytes p) (u16_bytes v) xs)

pub change-inj : (a b : Area) (p v p' v' : ℕ) (xs ys : List ℕ) → p < 2 ^ 16 → p' < 2 ^ 16 → v < 2 ^ 16 → v' < 2 ^ 16
    → change_text a p v ++ xs ≡ change_text b p' v' ++ ys → (a ≡ b) × (p ≡ p') × (v ≡ v') × (xs ≡ ys)
change-inj a b p v p' v' xs ys fp fp' fv fv' e =
    let e : area_number a ∷ (u16_bytes p ++ (u16_bytes v ++ xs)) ≡ area_number b
    ∷ (u16_bytes p' ++ (u16_bytes v' ++ ys)) =
    sym (change_apart a p v xs) ∙ e ∙ change_apart b p' v' ys in
    let place = u16_bytes-inj p p' (u16_bytes v ++ xs) (u16_bytes v' ++ ys) fp fp' (same_rest e) in
    let value = u16_bytes-inj v v' xs ys fv fv' place.1 in
    (area-inj a b (same_first e), place.0, value.0, value.1)

pub op-inj : (a b : Op) (xs ys : List ℕ) → FitsOp a → FitsOp b → op_text a ++ xs ≡ op_text b ++ ys → (a ≡ b) × (xs ≡ ys)
op-inj a b xs ys fa fb e =
    let both = ok_inj (sym (Spells-op.back a 0 xs refl fa) ∙ ap (λ r. op_at (at 0 r)) e
    ∙ Spells-op.back b 0 ys refl fb) in
    (ap (λ z. z.0) both, ap (λ z. z.1.rest) both)

-- a frame's text can be counted in 32 bits
pub frame_short : (f : Signed Body) → FitsFields f → IsTrue (has_spelling f) → IsShort (frame_text f)
frame_short f wide spelled = omega (arith, frame_within f spelled wide)

pub frame-inj : (f g : Signed Body) → FitsFields f → FitsFields g → IsTrue (has_spelling f) → IsTrue (has_spelling g)
    → frame_text f ≡ frame_text g → f ≡ g
frame-inj f g wf wg sf sg e = (no_prefix f g [] [] wf wg sf sg (ap (λ t. t ++ []) e)).0

pub event-inj : (a b : Event) (xs ys : List ℕ) → FitsEvent a → FitsEvent b → event_text a ++ xs ≡ event_text b ++ ys →
    (a ≡ b) × (xs ≡ ys)
event-inj (Took s p f) (Took s' p' g) xs ys fa fb e =
    let parts = taken-inj s p s' p' (frame_text f) (frame_text g) xs ys fa.0 fb.0 fa.1.0 fb.1.0
    (frame_short f fa.1.1.0 fa.1.1.1) (frame_short g fb.1.1.0 fb.1.1.1) (same_rest e) in
    let frame = frame-inj f g fa.1.1.0 fb.1.1.0 fa.1.1.1 fb.1.1.1 parts.2 in
    (ap (λ s. Took s p f) parts.0 ∙ ap (λ p. Took s' p f) parts.1 ∙ ap (λ f. Took s' p' f) frame, parts.3)
event-inj Tick Tick xs ys fa fb e = (refl, same_rest e)
event-inj (Command o) (Command o') xs ys fa fb e =
    let parts = op-inj o o' xs ys fa fb (same_rest e) in (ap Command parts.0, parts.1)
event-inj (Field a p v) (Field a' p' v') xs ys fa fb e =
    let parts = change-inj a a' p v p' v' xs ys fa.0 fb.0 fa.1 fb.1 (same_rest e) in
    (ap (λ a. Field a p v) parts.0 ∙ ap (λ p. Field a' p v) parts.1 ∙ ap (λ v. Field a' p' v) parts.2, parts.3)
event-inj Poll Poll xs ys fa fb e = (refl, same_rest e)
event-inj (Cry bytes) (Cry bytes') xs ys fa fb e =
    let parts = counted-inj bytes bytes' xs ys fa fb (same_rest e) in (ap Cry parts.0, parts.1)
event-inj Skip Skip xs ys fa fb e = (refl, same_rest e)
event-inj Restart Restart xs ys fa fb e = (refl, same_rest e)
event-inj a b xs ys fa fb e = absurd (let other = same_first e in omega arith)

pub entry-inj : (s t : ℕ) (a b : Event) (xs ys : List ℕ) → FitsEntry s a → FitsEntry t b
    → entry_text s a ++ xs ≡ entry_text t b ++ ys → (s ≡ t) × (a ≡ b) × (xs ≡ ys)
entry-inj s t a b xs ys fa fb e =
    let stamp = u64_bytes-inj s t (event_text a ++ xs) (event_text b ++ ys) fa.0 fb.0
    (sym (append_assoc (u64_bytes s) (event_text a) xs) ∙ e ∙ append_assoc (u64_bytes t) (event_text b) ys) in
    let event = event-inj a b xs ys fa.1 fb.1 stamp.1 in
    (stamp.0, event.0, event.1)

-- an entry that fits can be written
pub fits_count : (stamp : ℕ) (event : Event) → FitsEntry stamp event → HasCount event
fits_count stamp (Took s p frame) fits = tt
fits_count stamp Tick fits = tt
fits_count stamp (Command op) fits = tt
fits_count stamp (Field area place value) fits = tt
fits_count stamp Poll fits = tt
fits_count stamp (Cry bytes) fits = fits.1
fits_count stamp Skip fits = tt
fits_count stamp Restart fits = tt
