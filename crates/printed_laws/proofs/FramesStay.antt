-- The frames of an entry, in a history and in one that begins it.
use Rattle.std.proofs.Common.{◌≡◌, ℕ, zero, suc, ◌+◌, ◌<◌, ◌≤◌, true, List, [], ◌∷◌, ◌++◌, Option, Some, None, Result}
use Rattle.std.proofs.Common.{Ok, Err, length, take, refl, ap, subst, arith}
use Rattle.std.specs.Prelude.{slice_get}
use Rattle.std.specs.List.{All}
use Rattle.std.proofs.lemmas.List.{length-append}
use Rattle.std.proofs.lemmas.List.Elements.{All-head, All-tail}
use Rattle.std.proofs.lemmas.Option.{slice_get_past}
use Rattle.message_types.specs.declared.signed.Signed.{Signed}
use Rattle.message_types.specs.declared.body.Body.{Body}
use Rattle.message_forms.specs.declared.refusal.FormRefusal.{FormRefusal}
use Rattle.message_forms.specs.Forms.{frame_at}
use Rattle.history_rules.specs.Events.{Event, Took, Tick, Command, Field, Poll, Cry, Skip, Restart, Entry}
use Rattle.history_rules.specs.Setup.{Setup, signed_from, leaves_used, own}
use Rattle.history_rules.specs.Sameness.{is_same_body}
use Rattle.history_laws.proofs.Same.{signed_test, body_test}
use Rattle.world_rules.specs.Frames.{cried, frames_of, frames_at_stamp}
use Rattle.printed_run.specs.Printed.{is_frame}
use Rattle.printed_laws.specs.RunLaws.{IsHeld}
use Rattle.printed_laws.proofs.BareFrames.{frames_by}
use Rattle.plain_lists.proofs.Lists.{get_left, take_left}

-- the frame that is found is the same
pub frame_found : (frame : Signed Body) (o : Option (Signed Body)) → is_frame frame o ≡ true → o ≡ Some frame
frame_found frame None is = absurd (cc)
frame_found frame (Some said) is =
    ap (λ (f : Signed Body). Some f) ((signed_test is_same_body body_test said frame).0 is)

-- more entries change nothing of those before
pub frames_before : (w : Setup) (before rest : List Entry) (stamp : ℕ) → stamp < length before →
    frames_at_stamp w (before ++ rest) stamp ≡ frames_at_stamp w before stamp
unfolding frames_at_stamp
frames_before w before rest stamp below = λ i. frames_by w (take_left before rest stamp (omega arith) i)
    (get_left before rest stamp below i)

-- an entry has few frames

as_many : (w : Setup) (actor used place : ℕ) (said bodies : List Body) →
    length (signed_from w actor used said place bodies) ≡ length bodies
as_many w actor used place said [] = refl
as_many w actor used place said (b ∷ bodies) = ap suc (as_many w actor used (suc place) said bodies)

few_read : (read : Result (Signed Body) FormRefusal) →
    length {A = Signed Body} (elim read [ Ok f ↦ f ∷ [] | Err fault ↦ [] ]) ≤ 1
few_read (Ok f) = omega arith
few_read (Err fault) = omega arith

few_cried : (event : Event) → length (cried event) ≤ 1
few_cried (Took stamp place frame) = omega arith
few_cried Tick = omega arith
few_cried (Command op) = omega arith
few_cried (Field area place value) = omega arith
few_cried Poll = omega arith
few_cried (Cry bytes) = few_read (frame_at bytes)
few_cried Skip = omega arith
few_cried Restart = omega arith

few_frames_of : (w : Setup) (list : List Entry) (e : Entry) → IsHeld e → length (frames_of w list e) < 4294967295
few_frames_of w list e held =
    let all : length (frames_of w list e) ≡ length (signed_from w e.actor (leaves_used w list) e.said 0 e.said)
    + length (cried e.event) =
    length-append (signed_from w e.actor (leaves_used w list) e.said 0 e.said) (cried e.event) in
    let many : length (signed_from w e.actor (leaves_used w list) e.said 0 e.said) ≡ length e.said =
    as_many w e.actor (leaves_used w list) 0 e.said e.said in
    let one = few_cried e.event in
    let few = held.few in
    omega (arith, all, many, one, few)

held_at : (history : List Entry) (stamp : ℕ) (e : Entry) → All IsHeld history →
    slice_get history stamp ≡ Some e → IsHeld e
held_at [] stamp e all is = absurd (cc)
held_at (x ∷ history) zero e all is = let same : x ≡ e = cc in subst IsHeld same (All-head IsHeld x history all)
held_at (x ∷ history) (suc stamp) e all is = held_at history stamp e (All-tail IsHeld x history all) is

few_by : (w : Setup) (before : List Entry) (o : Option Entry) → ((e : Entry) → o ≡ Some e → IsHeld e) →
    length (frames_by w before o) < 4294967295
few_by w before None held = omega arith
few_by w before (Some e) held = few_frames_of w (own before e.actor) e (held e refl)

-- no frame stands at the place that no body has
pub none_there : (w : Setup) (history : List Entry) (stamp : ℕ) → All IsHeld history →
    slice_get (frames_at_stamp w history stamp) 4294967295 ≡ None
unfolding frames_at_stamp
none_there w history stamp held =
    let few = few_by w (take stamp history) (slice_get history stamp) (λ e is. held_at history stamp e held is) in
    slice_get_past (frames_by w (take stamp history) (slice_get history stamp)) 4294967295 (omega (arith, few))
