-- What the grammar gives for bytes is the frame that they spell, and the other way.
use Rattle.std.proofs.Common.{◌≡◌, ◌+◌, ◌^◌, ℕ, Bool, true, false, List, [], ◌++◌, length, refl, sym, ap, ◌∙◌, subst}
use Rattle.std.specs.Prelude.{IsTrue, IsOk, IfOk, IfErr, ◌↔◌, nat_lt, if◌then◌else◌, None, Result, Ok, Err}
use Rattle.std.proofs.lemmas.Bool.{le-ltb}
use Rattle.std.proofs.lemmas.List.{append-nil}
use Rattle.message_types.specs.declared.signed.Signed.{Signed}
use Rattle.message_types.specs.declared.body.Body.{Body}
use Rattle.message_types.specs.Texts.{frame_text}
use Rattle.message_types.specs.Spelling.{has_spelling}
use Rattle.message_forms.specs.declared.refusal.FormRefusal.{FormRefusal}
use Rattle.message_forms.specs.declared.refusal.FormRefusal.TheVariants as fault
use Rattle.message_forms.specs.Grammar.{◌>>=◌, at, end_at, signed_at}
use Rattle.message_forms.specs.Forms.{body_at, frame_at, fault_in, first_fault}
use Rattle.message_forms.specs.Gives.{Answers, Fails, IsFault}
use Rattle.message_forms.specs.Widths.{IsBytes, FitsFields}
use Rattle.message_forms.proofs.Spells.{bind_ok, ok_inj}
use Rattle.message_forms.proofs.SpellsFrames.{Spells-signed, end_none, end_here}
use Rattle.message_forms.proofs.SpellsBody.{Spells-body, short_body}
use Rattle.message_forms.proofs.Lengths.{frame_within}

-- a frame is read back, whatever follows it
pub signed_back : (f : Signed Body) (place : ℕ) (rest : List ℕ) → has_spelling f ≡ true → FitsFields f
    → signed_at body_at None (at place (frame_text f ++ rest)) ≡ Ok (f, at (place + length (frame_text f)) rest)
unfolding has_spelling
signed_back f place rest ok wide = (Spells-signed short_body Spells-body None).back f place rest ok wide

-- what is spelled is read
pub frame_back : (f : Signed Body) (bytes : List ℕ) → FitsFields f → has_spelling f ≡ true → bytes ≡ frame_text f
    → frame_at bytes ≡ Ok f
unfolding frame_at
frame_back f bytes wide ok is =
    let text = frame_text f in
    let small : nat_lt (2 ^ 30) (length text) ≡ false = le-ltb (2 ^ 30) (length text) (frame_within f ok wide) in
    let one = ap (λ x. signed_at body_at None (at 0 x)) (sym (append-nil text)) ∙ signed_back f 0 [] ok wide in
    ap frame_at is
    ∙ ap (λ b. if b then Err (fault.TooLong 0) else (signed_at body_at None (at 0 text) >>= λ frame. end_at frame.1
    >>= λ done. Ok frame.0)) small
    ∙ ap (λ read. read >>= λ frame. end_at frame.1 >>= λ done. Ok frame.0) one
    ∙ ap (λ read. read >>= λ done. Ok f) (end_here (0 + length text))

-- what is read is spelled
pub frame_sound : (bytes : List ℕ) (f : Signed Body) → IsBytes bytes → frame_at bytes ≡ Ok f
    → (bytes ≡ frame_text f) × (has_spelling f ≡ true) × FitsFields f
unfolding frame_at has_spelling
frame_sound bytes f ok h = found (nat_lt (2 ^ 30) (length bytes)) h where
  found : (b : Bool)
      → (if b then Err (fault.TooLong 0) else (signed_at body_at None (at 0 bytes) >>= λ frame. end_at frame.1
      >>= λ done. Ok frame.0)) ≡ Ok f
      → (bytes ≡ frame_text f) × (has_spelling f ≡ true) × FitsFields f
  found true h = absurd (cc)
  found false h =
      let one = bind_ok (signed_at body_at None (at 0 bytes)) (λ frame. end_at frame.1 >>= λ done. Ok frame.0) f h in
      let two = bind_ok (end_at one.0.1) (λ done. Ok one.0.0) f one.2 in
      let q = (Spells-signed short_body Spells-body None).sound (at 0 bytes) one.0 ok one.1 in
      let none = end_none one.0.1 two.0 two.1 in
      let whole : bytes ≡ frame_text one.0.0 = q.takes.bytes ∙ ap (λ x. frame_text one.0.0 ++ x) none
      ∙ append-nil (frame_text one.0.0) in
      subst (λ g. (bytes ≡ frame_text g) × (has_spelling g ≡ true) × FitsFields g)
      (ok_inj two.2) (whole, q.fits, q.wide)

-- no spelling is a prefix of another frame's
pub no_prefix : (f g : Signed Body) (xs ys : List ℕ) → FitsFields f → FitsFields g → has_spelling f ≡ true →
    has_spelling g ≡ true
    → frame_text f ++ xs ≡ frame_text g ++ ys → (f ≡ g) × (xs ≡ ys)
no_prefix f g xs ys wf wg sf sg same =
    let both = ok_inj (sym (signed_back f 0 xs sf wf) ∙ ap (λ x. signed_at body_at None (at 0 x)) same
    ∙ signed_back g 0 ys sg wg) in
    (ap (λ z. z.0) both, ap (λ z. z.1.rest) both)

-- no fault: some frame is spelled so
pub no_fault : (bytes : List ℕ) → IsBytes bytes → first_fault bytes ≡ None
    → (f : Signed Body) × FitsFields f × (has_spelling f ≡ true) × (bytes ≡ frame_text f)
unfolding first_fault
no_fault bytes ok h = read_is (frame_at bytes) refl h where
  read_is : (read : Result (Signed Body) FormRefusal) → frame_at bytes ≡ read → fault_in read ≡ None
      → (f : Signed Body) × FitsFields f × (has_spelling f ≡ true) × (bytes ≡ frame_text f)
  read_is (Ok f) is h = let q = frame_sound bytes f ok is in (f, q.2, q.1, q.0)
  read_is (Err e) is h = absurd (cc)

pub spelled_no_fault : (bytes : List ℕ) (f : Signed Body) → FitsFields f → has_spelling f ≡ true → bytes ≡ frame_text f
    → first_fault bytes ≡ None
unfolding first_fault
spelled_no_fault bytes f wide ok is = ap fault_in (frame_back f bytes wide ok is)

-- what a reader answers, in the words of its contract

pub answer_found : (r : Result (Signed Body) FormRefusal) (bytes : List ℕ) → IsBytes bytes → Answers r (frame_at bytes)
    → IfOk r (λ f. bytes ≡ frame_text f)
answer_found (Ok f) bytes ok h = (frame_sound bytes f ok h).0
answer_found (Err e) bytes ok h = tt

pub answer_spelled : (r : Result (Signed Body) FormRefusal) (bytes : List ℕ) → IsBytes bytes →
    Answers r (frame_at bytes)
    → IfOk r (λ f. IsTrue (has_spelling f))
answer_spelled (Ok f) bytes ok h = (frame_sound bytes f ok h).1
answer_spelled (Err e) bytes ok h = tt

pub answer_only : (r : Result (Signed Body) FormRefusal) (bytes : List ℕ) → Answers r (frame_at bytes)
    → (f : Signed Body) → FitsFields f → IsTrue (has_spelling f) → bytes ≡ frame_text f → Answers r (Ok f)
answer_only r bytes h f wide ok is = subst (λ read. Answers r read) (frame_back f bytes wide ok is) h

fault_is : (e : FormRefusal) (bytes : List ℕ) → Fails e (frame_at bytes) → IsFault e (first_fault bytes)
unfolding first_fault
fault_is fault.Want bytes h = tt
fault_is (fault.Short p) bytes h = ap fault_in h
fault_is (fault.Trailing p) bytes h = ap fault_in h
fault_is (fault.UnknownKind p) bytes h = ap fault_in h
fault_is (fault.TooMany p) bytes h = ap fault_in h
fault_is (fault.BadOrder p) bytes h = ap fault_in h
fault_is (fault.TooLong p) bytes h = ap fault_in h

pub answer_fault : (r : Result (Signed Body) FormRefusal) (bytes : List ℕ) → Answers r (frame_at bytes)
    → IfErr r (λ e. IsFault e (first_fault bytes))
answer_fault (Ok f) bytes h = tt
answer_fault (Err e) bytes h = fault_is e bytes h

pub answer_none : (r : Result (Signed Body) FormRefusal) (bytes : List ℕ) → Answers r (frame_at bytes)
    → IsOk r → first_fault bytes ≡ None
unfolding first_fault
answer_none (Ok f) bytes h ok = ap fault_in h
answer_none (Err e) bytes h ok = absurd (cc)

pub faultless : (bytes : List ℕ) → IsBytes bytes
    → (first_fault bytes ≡ None) ↔ ((f : Signed Body) × FitsFields f × IsTrue (has_spelling f) × (bytes ≡ frame_text f))
faultless bytes ok = (λ none. no_fault bytes ok none, λ x. spelled_no_fault bytes x.0 x.1 x.2 x.3)
