-- Frames that were said at a stamp and a place of a history.
use Rattle.std.proofs.Common.{◌≡◌, ℕ, ◌+◌, ◌<◌, ◌^◌, Bool, true, cond, List, ◌∷◌, ◌++◌, Option}
use Rattle.std.proofs.Common.{Some, length, refl, sym, ◌∙◌, ap, subst}
use Rattle.std.specs.Prelude.{slice_get}
use Rattle.std.proofs.Math.Seq.{take-append_seam}
use Rattle.plain_lists.proofs.Members.{slice_get-next}
use Rattle.message_types.specs.declared.signed.Signed.{Signed}
use Rattle.message_types.specs.declared.body.Body.{Body}
use Rattle.history_rules.specs.Events.{Event, Took, Tick, Command, Field, Poll, Cry, Skip, Restart, Entry}
use Rattle.history_rules.specs.Setup.{Setup, own}
use Rattle.history_rules.specs.Sameness.{is_same_body}
use Rattle.history_laws.proofs.Same.{signed_test, body_test}
use Rattle.world_rules.specs.Frames.{frames_of, frames_at_stamp}
use Rattle.printed_run.specs.Printed.{is_frame, is_said}
use Rattle.printed_history.proofs.EventTold.{said_earlier}
use Rattle.printed_run.specs.Tellable.{CanBeTold, told_by_bytes_at, entry_as_told}
use Rattle.printed_laws.proofs.BareFrames.{frames_by}
use Rattle.printed_laws.proofs.FramesStay.{frames_before}
use Rattle.printed_laws.specs.PlayLaws.{IsGiven}

-- the frame was said there, at a place of 32 bits
abbrev pub IsPosted : Setup → List Entry → ℕ → ℕ → Signed Body → Type 0
IsPosted w history stamp place frame = (slice_get (frames_at_stamp w history stamp) place ≡ Some frame)
    × (place < 2 ^ 32)

-- a frame that the event takes was said where the event tells
abbrev pub WasSaid : Setup → List Entry → Event → Type 0
WasSaid w history (Took stamp place frame) = IsPosted w history stamp place frame
WasSaid w history _ = Unit {0}

-- more entries change nothing of it
pub posted_on : (w : Setup) (history more later : List Entry) (stamp place : ℕ) (frame : Signed Body) →
    later ≡ history ++ more → IsPosted w history stamp place frame → IsPosted w later stamp place frame
posted_on w history more later stamp place frame grown posted = (
  ap (λ (es : List Entry). slice_get (frames_at_stamp w es stamp) place) grown
      ∙ ap (λ (fs : List (Signed Body)). slice_get fs place)
      (frames_before w history more stamp (said_earlier w history stamp place frame posted.0))
      ∙ posted.0,
  posted.1,
)

pub said_on : (w : Setup) (history more later : List Entry) (event : Event) → later ≡ history ++ more →
    WasSaid w history event → WasSaid w later event
said_on w history more later (Took stamp place frame) grown said =
    posted_on w history more later stamp place frame grown said
said_on w history more later Tick grown said = tt
said_on w history more later (Command op) grown said = tt
said_on w history more later (Field area place value) grown said = tt
said_on w history more later Poll grown said = tt
said_on w history more later (Cry bytes) grown said = tt
said_on w history more later Skip grown said = tt
said_on w history more later Restart grown said = tt

-- the frames of an entry behind a beginning
pub frames_there : (w : Setup) (before after : List Entry) (e : Entry) →
    frames_at_stamp w (before ++ e ∷ after) (length before) ≡ frames_of w (own before e.actor) e
unfolding frames_at_stamp
frames_there w before after e = λ i. frames_by w (take-append_seam before (e ∷ after) i)
    (slice_get-next before (e ∷ after) i)

-- a frame that was said where its event tells is told so
found_there : (frame : Signed Body) (o : Option (Signed Body)) → o ≡ Some frame → is_frame frame o ≡ true
found_there frame o is = ap (is_frame frame) is ∙ (signed_test is_same_body body_test frame frame).1 refl

event_as_it_is : (w : Setup) (history : List Entry) (stamp : ℕ) (event : Event) → WasSaid w history event →
    cond (is_said w history event) event (told_by_bytes_at stamp event) ≡ event
event_as_it_is w history stamp (Took at place frame) said =
    ap (λ (b : Bool). cond b (Took at place frame) (told_by_bytes_at stamp (Took at place frame)))
    (found_there frame (slice_get (frames_at_stamp w history at) place) said.0)
event_as_it_is w history stamp Tick said = refl
event_as_it_is w history stamp (Command op) said = refl
event_as_it_is w history stamp (Field area place value) said = refl
event_as_it_is w history stamp Poll said = refl
event_as_it_is w history stamp (Cry bytes) said = refl
event_as_it_is w history stamp Skip said = refl
event_as_it_is w history stamp Restart said = refl

with_event : Entry → Event → Entry
with_event e event = record e { event = event }

pub entry_as_it_is : (w : Setup) (history : List Entry) (e : Entry) → WasSaid w history e.event →
    entry_as_told w history e ≡ e
unfolding with_event
entry_as_it_is w history e said = ap (with_event e) (event_as_it_is w history e.stamp e.event said)

-- so its line can be read
pub given_can_be_told : (w : Setup) (history : List Entry) (event : Event) → WasSaid w history event → IsGiven event →
    CanBeTold (is_said w history event) event
given_can_be_told w history (Took at place frame) said given =
    subst (λ (b : Bool). CanBeTold b (Took at place frame))
    (sym (found_there frame (slice_get (frames_at_stamp w history at) place) said.0)) said.1
given_can_be_told w history Tick said given = tt
given_can_be_told w history (Command op) said given = given
given_can_be_told w history (Field area place value) said given = given
given_can_be_told w history Poll said given = tt
given_can_be_told w history (Cry bytes) said given = given
given_can_be_told w history Skip said given = tt
given_can_be_told w history Restart said given = tt
