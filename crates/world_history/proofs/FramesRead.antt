-- What the reader and the checker of frames answer, by their contracts: what is read is what the bytes of a cry spell,
-- what passes the check stands, and what is refused, but for want of memory, doesn't.
use Rattle.std.proofs.Common.{◌≡◌, ℕ, Bool, false, true, cond, List, [], ◌∷◌, Option, Some, None, Result, Ok, Err}
use Rattle.std.proofs.Common.{IsTrue, refl, sym, ◌∙◌, ap}
use Rattle.std.proofs.lemmas.Bool.{false≢true, false_from_ne_true}
use Rattle.message_types.specs.declared.signed.Signed.{Signed}
use Rattle.message_types.specs.declared.body.Body.{Body}
use Rattle.message_types.specs.Texts.{frame_text}
use Rattle.message_types.specs.Spelling.{has_spelling}
use Rattle.message_forms.specs.declared.refusal.FormRefusal.{FormRefusal}
use Rattle.message_forms.specs.declared.refusal.FormRefusal.TheVariants as form
use Rattle.message_forms.specs.Forms.{frame_at, first_fault, fault_in}
use Rattle.message_forms.specs.Gives.{Answers, IsFault}
use Rattle.message_forms.specs.Widths.{IsBytes, FitsFields}
use Rattle.message_forms.proofs.FrameLaws.{frame_sound}
use Rattle.checked_frames.specs.declared.refusal.CheckRefusal.{CheckRefusal}
use Rattle.checked_frames.specs.declared.refusal.CheckRefusal.TheVariants as check
use Rattle.checked_frames.specs.Standing.{Ring, stands}
use Rattle.checked_frames.specs.Standing as checked
use Rattle.checked_frames.proofs.StandingLaws.{stands_faultless}
use Rattle.history_rules.specs.Events.{Cry}
use Rattle.history_rules.specs.Setup as setup
use Rattle.scenario_file.specs.Reading.{Contents}
use Rattle.world_rules.specs.Frames.{cried}
use Rattle.world_rules.specs.Scenarios.{setup_of}
use Rattle.world_history.specs.Signed.{ring_in}
use Rattle.world_history.proofs.StandingFrames.{stands_by_ring}
use Rattle.world_history.specs.Reading.{is_want_of_form, is_want_of_check}

-- of one answer there is one refusal
pub same_refusal : {X E : Type 0} (r : Result X E) (a b : E) → r ≡ Err a → r ≡ Err b → a ≡ b
same_refusal r a b first second = cc

-- what a reader of frames answers, by its contract, is what the bytes of a cry spell
pub cried_read : (bytes : List ℕ) (frame : Signed Body) → IsBytes bytes → first_fault bytes ≡ None
    → ((x : Signed Body) → FitsFields x → IsTrue (has_spelling x) → bytes ≡ frame_text x → Answers (Ok frame) (Ok x))
    → frame ∷ [] ≡ cried (Cry bytes)
unfolding first_fault
cried_read bytes frame wide none only = by (frame_at bytes) refl none
  where
    by : (read : Result (Signed Body) FormRefusal) → frame_at bytes ≡ read → fault_in read ≡ None →
        frame ∷ [] ≡ cried (Cry bytes)
    by (Ok x) is none =
        let sound = frame_sound bytes x wide is in
        sym (ap (λ (read : Result (Signed Body) FormRefusal). elim read [ Ok f ↦ f ∷ [] | Err fault ↦ [] ])
        (is ∙ only x sound.2 sound.1 sound.0))
    by (Err e) is none = absurd (cc)

pub nothing_cried : (bytes : List ℕ) (e : FormRefusal) → is_want_of_form e ≡ false → IsFault e (first_fault bytes) →
    [] ≡ cried (Cry bytes)
unfolding first_fault
nothing_cried bytes e other fault = by (frame_at bytes) refl (some_fault e (fault_in (frame_at bytes)) other fault)
  where
    some_fault : (e : FormRefusal) (first : Option FormRefusal) → is_want_of_form e ≡ false → IsFault e first →
        first ≡ Some e
    some_fault form.Want first other fault = absurd (false≢true (sym other))
    some_fault (form.Short p) first other fault = fault
    some_fault (form.Trailing p) first other fault = fault
    some_fault (form.UnknownKind p) first other fault = fault
    some_fault (form.TooMany p) first other fault = fault
    some_fault (form.BadOrder p) first other fault = fault
    some_fault (form.TooLong p) first other fault = fault

    by : (read : Result (Signed Body) FormRefusal) → frame_at bytes ≡ read → fault_in (frame_at bytes) ≡ Some e →
        [] ≡ cried (Cry bytes)
    by (Ok x) is some = absurd (cc)
    by (Err f) is some = sym (ap
        (λ (read : Result (Signed Body) FormRefusal). elim read [ Ok f ↦ f ∷ [] | Err fault ↦ [] ]) is)

-- the check as a value: the frame, where it stands
found : Bool → Signed Body → Option (Signed Body)
found stand frame = cond stand (Some frame) None

pub passed_found : (ring : Ring) (frame passed : Signed Body) → passed ≡ frame → stands ring frame ≡ true →
    ◌≡◌ {A = Option (Signed Body)} (Some passed) (cond (stands ring frame) (Some frame) None)
unfolding found
passed_found ring frame passed same stand = ap (λ (f : Signed Body). Some f) same
    ∙ sym (ap (λ b. found b frame) stand)

pub refused_not_found : (ring : Ring) (frame : Signed Body) (r : CheckRefusal) → is_want_of_check r ≡ false →
    checked.IsFault r (checked.first_fault ring frame)
    → ◌≡◌ {A = Option (Signed Body)} None (cond (stands ring frame) (Some frame) None)
unfolding found
refused_not_found ring frame r other fault =
    sym (ap (λ b. found b frame) (false_from_ne_true (stands ring frame) (λ stand.
    no_fault r (checked.first_fault ring frame) other fault (stands_faultless ring frame stand))))
  where
    no_fault : (r : CheckRefusal) (first : Option CheckRefusal) → is_want_of_check r ≡ false →
        checked.IsFault r first → first ≡ None → ⊥
    no_fault check.Want first other fault none = false≢true (sym other)
    no_fault (check.SignerUnknown signer) first other fault none = absurd cc
    no_fault (check.Unsigned part) first other fault none = absurd cc
    no_fault (check.Misplaced part) first other fault none = absurd cc

-- What was found stands, and where nothing was found, nothing stands.
pub found_some : (stand : Bool) (frame x : Signed Body) → cond stand (Some frame) None ≡ Some x →
    (x ≡ frame) × (stand ≡ true)
found_some true frame x is = (cc, refl)
found_some false frame x is = absurd cc

pub found_none : (stand : Bool) (frame : Signed Body) →
    ◌≡◌ {A = Option (Signed Body)} (cond stand (Some frame) None) None → stand ≡ false
found_none true frame is = absurd cc
found_none false frame is = refl

-- By the ring of a scenario's actors the same frames stand as in its histories.
pub stands_by : (c : Contents) (ring : Ring) (frame : Signed Body) → ring ≡ ring_in c →
    setup.stands (setup_of c) frame ≡ stands ring frame
stands_by c ring frame is = stands_by_ring c frame ∙ ap (λ (r : Ring). stands r frame) (sym is)
