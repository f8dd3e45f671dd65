-- The role says what the rules have it say, cut to the leaves that are left, and signs it with the next ones.
-- So role, key, list and frames are again those of the list with one more entry.
use Rattle.std.proofs.lemmas.List.{map-append}
use Rattle.std.proofs.Common.{◌≡◌, ◌++◌, ◌∷◌, ◌+◌, [], length, List, true, map, refl, ◌∙◌, ap, arith}
use Rattle.hash_signatures.specs.Signatures.{all_leaves}
use Rattle.hash_signatures.specs.State.{KeyUse, key_use}
use Rattle.history_rules.specs.Events.{Entry}
use Rattle.history_rules.specs.Leaves.{room_of}
use Rattle.history_rules.specs.Setup.{room, is_correct}
use Rattle.world_entries.specs.Entries.{event_of, entry_of}
use Rattle.world_history.specs.declared.role.Role.{Role}
use Rattle.world_history.specs.declared.seat.Seat.{Seat}
use Rattle.checked_frames.specs.Entries.{group_size, groups_for}
use Rattle.world_rules.specs.Scenarios.{setup_of, shares_leaves, key_in}
use Rattle.bench_rules.specs.Lists.{frames_after}
use Rattle.world_history.proofs.LeavesSuffice.{leaves_are_few}
use Rattle.message_types.specs.declared.body.Body.{Body}
use Rattle.world_history.specs.Roles.{Comes, IsReady}
use Rattle.world_history.specs.Seats.{IsSeated, world_in, list_in, entry_of_seat}
use Rattle.world_history.proofs.RoleEntry.{can_answer}
use Rattle.world_history.proofs.ReplayGrows.{comes_next, room_left, said_can_be_signed, leaves_there, frames_made}
use Rattle.world_history.proofs.ReplayGrows.{made_stand, made_all_stand, seated_next}
use Rattle.world_history.proofs.seat.Seat.add.Goals.{In_ok-bodies, In_ok-frames, In_ok-push-2}
use Rattle.world_history.proofs.seat.Seat.add.Goals as goal

pub room_for-room-requires : goal.room_for-room-requires
room_for-room-requires c =
    let seated = c.requires.seated in
    let few = leaves_are_few (world_in c.args.self.now) c.args.self.now.actor seated.scenario in
    let key : all_leaves c.args.self.now.key.key ≡ all_leaves
    (key_in (world_in c.args.self.now) c.args.self.now.actor) =
    ap (λ (k : KeyUse). all_leaves k.key) seated.key in
    let left = c.left.ensures.left in
    omega arith

pub answer-requires : goal.answer-requires
answer-requires c =
    let s = c.args.self.now in
    let seated = c.requires.seated in
    let comes = comes_next s c.args.stamp (event_of c.args.event) seated c.requires.fits c.requires.later
    c.requires.taken c.requires.short
    c.event_carries_well.ensures in
    can_answer (world_in s) s.actor (list_in s) (entry_of_seat s c.args.stamp (event_of c.args.event))
    s.role comes seated.role

-- What the role said is what the entry says.
record Answered (s : Seat) (e : Entry) (bodies : List Body) (role : Role) : Type 0 where
  seated : IsSeated s
  comes : Comes (world_in s) s.actor (list_in s) e
  said : bodies ≡ e.said
  ready : IsReady (world_in s) s.actor (list_in s) e role

answered : (c : In_ok-bodies) → Answered c.args.self.now
    (entry_of_seat c.args.self.now c.args.stamp (event_of c.args.event)) c.in_ok-bodies.bodies.items c.answer.new.role
answered c =
    let s = c.args.self.now in
    let seated = c.requires.seated in
    let e = entry_of_seat s c.args.stamp (event_of c.args.event) in
    let comes = comes_next s c.args.stamp (event_of c.args.event) seated c.requires.fits c.requires.later
    c.requires.taken c.requires.short
    c.event_carries_well.ensures in
    let many : is_correct (setup_of (world_in s)) s.actor ≡ true →
    c.room_for-room.result ≡ room (setup_of (world_in s)) (list_in s) =
    λ right. c.room_for-room.ensures ∙ ap (room_of (shares_leaves (world_in s))) c.left.ensures.left
    ∙ room_left s seated right in
    record {
      seated = seated;
      comes = comes;
      said = c.in_ok-bodies.ensures.said (world_in s) s.actor (list_in s) e comes refl many seated.role;
      ready = c.in_ok-bodies.ensures.ready (world_in s) s.actor (list_in s) e comes refl many seated.role;
    }

-- so the frames are the entry's
made : (c : In_ok-frames) → Answered c.args.self.now
    (entry_of_seat c.args.self.now c.args.stamp (event_of c.args.event)) c.in_ok-bodies.bodies.items c.answer.new.role
    → c.in_ok-frames.frames.items ≡ frames_after (setup_of (world_in c.args.self.now)) c.args.self.now.actor
    (list_in c.args.self.now) (entry_of_seat c.args.self.now c.args.stamp (event_of c.args.event))
made c a = c.in_ok-frames.ensures.frames
    ∙ frames_made c.args.self.now (entry_of_seat c.args.self.now c.args.stamp (event_of c.args.event))
    c.deref.result.now a.seated a.comes (c.deref.ensures.value ∙ a.said)

-- and the list has the entry more
grown : (c : In_ok-push-2) → Answered c.args.self.now
    (entry_of_seat c.args.self.now c.args.stamp (event_of c.args.event)) c.in_ok-bodies.bodies.items c.answer.new.role
    → map entry_of c.push-2.new.self.items ≡ list_in c.args.self.now
    ++ entry_of_seat c.args.self.now c.args.stamp (event_of c.args.event) ∷ []
grown c a =
    let s = c.args.self.now in
    let put = rw c.in_ok-push-2.was at c.push-2.ensures.items in
    ap (map entry_of) put ∙ map-append entry_of s.list.items _
    ∙ ap (λ (bs : List Body). list_in s ++ record {
      stamp = c.args.stamp;
      actor = s.actor;
      event =
          event_of c.args.event;
      said = bs;
    } ∷ [])
    (c.from_vec.ensures ∙ a.said)

pub sign_all-requires-clause-fit : goal.sign_all-requires-clause-fit
sign_all-requires-clause-fit c =
    let a = answered (goal.at.sign_all-requires-clause-fit c).In_ok-bodies in
    said_can_be_signed c.args.self.now (entry_of_seat c.args.self.now c.args.stamp (event_of c.args.event))
    c.deref.result.now a.seated a.comes (c.deref.ensures.value ∙ a.said)

pub sign_all-requires-clause-left : goal.sign_all-requires-clause-left
sign_all-requires-clause-left c =
    let a = answered (goal.at.sign_all-requires-clause-left c).In_ok-bodies in
    leaves_there c.args.self.now (entry_of_seat c.args.self.now c.args.stamp (event_of c.args.event))
    c.deref.result.now a.seated a.comes (c.deref.ensures.value ∙ a.said) c.left.ensures.within

pub standing-requires : goal.standing-requires
standing-requires c =
    let a = answered (goal.at.standing-requires c).In_ok-bodies in
    made_all_stand c.args.self.now (entry_of_seat c.args.self.now c.args.stamp (event_of c.args.event))
    c.deref-3.result.now a.seated a.comes
    (c.deref-3.ensures.value ∙ made (goal.at.standing-requires c).In_ok-frames a)

pub returns-clause-list : goal.returns-clause-list
returns-clause-list c = grown (goal.at.returns-clause-list c).In_ok-push-2
    (answered (goal.at.returns-clause-list c).In_ok-bodies)

pub returns-clause-frames : goal.returns-clause-frames
returns-clause-frames c = made (goal.at.returns-clause-frames c).In_ok-frames
    (answered (goal.at.returns-clause-frames c).In_ok-bodies)

pub returns-clause-stand : goal.returns-clause-stand
returns-clause-stand c =
    let a = answered (goal.at.returns-clause-stand c).In_ok-bodies in
    made_stand c.args.self.now (entry_of_seat c.args.self.now c.args.stamp (event_of c.args.event))
    c.in_ok-frames.frames.items a.seated a.comes (made (goal.at.returns-clause-stand c).In_ok-frames a)

pub returns-clause-seated : goal.returns-clause-seated
returns-clause-seated c =
    let s = c.args.self.now in
    let e = entry_of_seat s c.args.stamp (event_of c.args.event) in
    let a = answered (goal.at.returns-clause-seated c).In_ok-bodies in
    let made = made (goal.at.returns-clause-seated c).In_ok-frames a in
    let new : Seat = record {
      alloc = s.alloc;
      scenario = s.scenario;
      held = s.held;
      actor = s.actor;
      key = c.sign_all.new.key;
      role = c.close.new.role;
      list = c.push-2.new.self;
      frames = c.push.new.self;
      signed = s.signed;
    } in
    let role = c.in_ok-close.ensures (world_in s) s.actor (list_in s) e a.comes refl
    (c.deref-2.ensures.value ∙ made) a.ready in
    let key = c.in_ok-frames.ensures.used
    ∙ ap (λ (bs : List Body). key_use s.key.key
    (s.key.used + groups_for (group_size (shares_leaves (world_in s))) (length bs))) (c.deref.ensures.value ∙ a.said) in
    let kept = rw c.in_ok-push.was at c.push.ensures.items in
    seated_next s new e c.in_ok-checked.checked a.seated a.comes (refl, refl, refl)
    (grown (goal.at.returns-clause-seated c).In_ok-push-2 a) role key
    (c.in_ok-checked.ensures ∙ c.deref-3.ensures.value ∙ made) kept
