-- One entry more: the state after it is the replay of the longer list.
use Rattle.std.proofs.Common.{◌≡◌, ℕ, ◌+◌, ◌-◌, ◌^◌, ◌<◌, ◌≤◌, Bool, true, false, List, [], ◌∷◌, ◌++◌, append-nil}
use Rattle.std.proofs.Common.{append_assoc, length, map, nat_lt, refl, sym, ◌∙◌, ap, subst, arith}
use Rattle.std.specs.List.{list_all}
use Rattle.std.proofs.lemmas.Bool.{and_from, and_parts}
use Rattle.message_types.specs.declared.signed.Signed.{Signed}
use Rattle.message_types.specs.declared.body.Body.{Body}
use Rattle.message_types.specs.Texts.{body_text}
use Rattle.message_types.specs.Spelling.{body_fits}
use Rattle.checked_frames.specs.Standing as ring
use Rattle.checked_frames.specs.Entries.{group_size, groups_for, entry_signatures}
use Rattle.hash_signatures.specs.Signatures.{all_leaves}
use Rattle.hash_signatures.specs.State.{KeyUse, key_use}
use Rattle.scenario_file.specs.Reading.{Contents}
use Rattle.history_rules.specs.Events.{Event, Entry}
use Rattle.history_rules.specs.Leaves.{leaves_for, room_of}
use Rattle.history_rules.specs.Setup.{Setup, is_correct, stands, leaves_used, room, signed_from}
use Rattle.history_rules.specs.Legal.{TakesWell}
use Rattle.client_roles.specs.Roles.{carries_well}
use Rattle.world_rules.specs.Scenarios.{setup_of, key_in, shares_leaves}
use Rattle.world_rules.proofs.Fields.{setup_goes_by, leaves_of_all}
use Rattle.bench_rules.specs.Lists.{frames_after}
use Rattle.world_history.specs.Signed.{frames_with, ring_in}
use Rattle.history_laws.proofs.BenchLists.{one_more_is_bench_list}
use Rattle.world_history.proofs.LeavesSuffice.{leaves_used_next, groups_use_leaves, leaves_enough, signed_by_signatures}
use Rattle.world_history.proofs.StandingFrames.{stands_by_ring}
use Rattle.world_history.specs.declared.role.Role.{Role}
use Rattle.world_history.specs.declared.seat.Seat.{Seat}
use Rattle.world_history.specs.Roles.{Comes, IsRole}
use Rattle.world_history.specs.Seats.{AllStand, IsReplay, IsSeated, GoesByTheSame, frames_of_each, world_in, list_in}
use Rattle.world_history.specs.Seats.{entry_of_seat}
use Rattle.world_history.proofs.RoleEntry.{Kind, as_correct, as_silent, kind_of, said_fits, frames_stand}

-- the entry of an event comes after a seat's list
pub comes_next : (s : Seat) (stamp : ℕ) (event : Event) → IsSeated s → (setup_of (world_in s)).fits s.actor event ≡ true
    → list_all (λ (e : Entry). nat_lt e.stamp stamp) (list_in s) ≡ true →
    TakesWell (setup_of (world_in s)) stamp event → length (list_in s) < 2 ^ 32
    → carries_well event ≡ true → Comes (world_in s) s.actor (list_in s) (entry_of_seat s stamp event)
comes_next s stamp event is fits later taken short carried = record {
  scenario = is.scenario;
  there = is.there;
  key = is.own;
  list = is.entries;
  adds = record { by = refl; later = later; role = fits; taken = taken; said = refl };
  short = short;
  carried = carried;
}

shared_is : (c : Contents) → (setup_of c).shared_leaves ≡ shares_leaves c
shared_is c = (setup_goes_by c).shared_leaves

-- the room of a correct actor is what its key has left
pub room_left : (s : Seat) → IsSeated s → is_correct (setup_of (world_in s)) s.actor ≡ true
    → room_of (shares_leaves (world_in s)) (all_leaves s.key.key - s.key.used) ≡ room
    (setup_of (world_in s)) (list_in s)
room_left s is right =
    let c : Contents = world_in s in
    let used : ℕ = leaves_used (setup_of (world_in s)) (list_in s) in
    let none : leaves_used (setup_of (world_in s)) (list_in s) + s.signed ≡ leaves_used (setup_of (world_in s))
    (list_in s) = let zero_signed = is.signs right in omega arith in
    ap (λ (k : KeyUse). room_of (shares_leaves c) (all_leaves k.key - k.used)) is.key
    ∙ ap (λ (n : ℕ). room_of (shares_leaves c) (all_leaves (key_in c s.actor) - n)) none
    ∙ ap (λ (b : Bool). room_of b (all_leaves (key_in c s.actor) - used)) (sym (shared_is c))
    ∙ ap (λ (n : ℕ). room_of (setup_of c).shared_leaves (n - used)) (sym (leaves_of_all c s.actor))

groups_of_none : (shared : Bool) → groups_for (group_size shared) 0 ≡ 0
groups_of_none true = refl
groups_of_none false = refl

-- the key has leaves for what is said
pub leaves_there : (s : Seat) (e : Entry) (bodies : List Body) → IsSeated s →
    Comes (world_in s) s.actor (list_in s) e → bodies ≡ e.said → s.key.used ≤ all_leaves s.key.key
    → s.key.used + groups_for (group_size (shares_leaves (world_in s))) (length bodies) ≤ all_leaves s.key.key
leaves_there s e bodies is comes said within = by (kind_of (world_in s) s.actor (list_in s) e s.role comes is.role)
  where
    by : Kind (world_in s) s.actor e → s.key.used + groups_for (group_size (shares_leaves (world_in s)))
        (length bodies) ≤ all_leaves s.key.key
    by (as_silent none) =
        let no : groups_for (group_size (shares_leaves (world_in s))) (length bodies) ≡ 0 =
        ap (λ (bs : List Body). groups_for (group_size (shares_leaves (world_in s))) (length bs)) (said ∙ none)
        ∙ groups_of_none (shares_leaves (world_in s)) in
        omega arith
    by (as_correct right) =
        let groups : groups_for (group_size (shares_leaves (world_in s))) (length bodies) ≡ leaves_for
        (setup_of (world_in s)).shared_leaves (length e.said) =
        ap (λ (bs : List Body). groups_for (group_size (shares_leaves (world_in s))) (length bs)) said
        ∙ groups_use_leaves (shares_leaves (world_in s)) (length e.said)
        ∙ ap (λ (b : Bool). leaves_for b (length e.said)) (sym (shared_is (world_in s))) in
        let enough = leaves_enough (setup_of (world_in s)) s.actor (list_in s) e comes.adds in
        let zero_signed = is.signs right in
        let used : s.key.used ≡ leaves_used (setup_of (world_in s)) (list_in s) + s.signed =
        ap (λ (k : KeyUse). k.used) is.key in
        let all : all_leaves s.key.key ≡ (setup_of (world_in s)).leaves = ap (λ (k : KeyUse). all_leaves k.key) is.key
        ∙ sym (leaves_of_all (world_in s) s.actor) in
        omega arith

-- what is said has a spelling
pub said_can_be_signed : (s : Seat) (e : Entry) (bodies : List Body) → IsSeated s →
    Comes (world_in s) s.actor (list_in s) e → bodies ≡ e.said → list_all body_fits bodies ≡ true
said_can_be_signed s e bodies is comes said = ap (list_all body_fits) said ∙ said_fits (world_in s) s.actor
    (list_in s) e s.role comes is.role

-- the frames made are those of the entry
pub frames_made : (s : Seat) (e : Entry) (bodies : List Body) → IsSeated s →
    Comes (world_in s) s.actor (list_in s) e → bodies ≡ e.said
    → frames_with s.actor bodies
    (entry_signatures s.key.key s.key.used (group_size (shares_leaves (world_in s))) (map body_text bodies))
    ≡ frames_after (setup_of (world_in s)) s.actor (list_in s) e
frames_made s e bodies is comes said =
    ap (λ (bs : List Body). frames_with s.actor bs
    (entry_signatures s.key.key s.key.used (group_size (shares_leaves (world_in s))) (map body_text bs))) said
    ∙ by (kind_of (world_in s) s.actor (list_in s) e s.role comes is.role)
  where
    made : List Body → ℕ → List (Signed Body)
    made bs used = frames_with s.actor bs
        (entry_signatures (key_in (world_in s) s.actor) used (group_size (shares_leaves (world_in s)))
        (map body_text bs))

    by : Kind (world_in s) s.actor e →
        frames_with s.actor e.said
        (entry_signatures s.key.key s.key.used (group_size (shares_leaves (world_in s))) (map body_text e.said))
        ≡ frames_after (setup_of (world_in s)) s.actor (list_in s) e
    by (as_silent none) =
        ap (λ (bs : List Body). frames_with s.actor bs
        (entry_signatures s.key.key s.key.used (group_size (shares_leaves (world_in s))) (map body_text bs))) none
        ∙ sym (ap (λ (bs : List Body). signed_from (setup_of (world_in s)) s.actor
        (leaves_used (setup_of (world_in s)) (list_in s)) bs 0 bs) none)
    by (as_correct right) =
        let none : leaves_used (setup_of (world_in s)) (list_in s) + s.signed ≡ leaves_used (setup_of (world_in s))
        (list_in s) = let zero_signed = is.signs right in omega arith in
        ap (λ (k : KeyUse). frames_with s.actor e.said
        (entry_signatures k.key k.used (group_size (shares_leaves (world_in s))) (map body_text e.said))) is.key
        ∙ ap (made e.said) none
        ∙ sym (signed_by_signatures (world_in s) s.actor (leaves_used (setup_of (world_in s)) (list_in s))
        e.said is.scenario)

all_by_ring : (c : Contents) (frames : List (Signed Body)) → list_all (stands (setup_of c)) frames ≡ true →
    list_all (ring.stands (ring_in c)) frames ≡ true
all_by_ring c [] all = refl
all_by_ring c (f ∷ fs) all =
    let both = and_parts (stands (setup_of c) f) (list_all (stands (setup_of c)) fs) all in
    and_from (ring.stands (ring_in c) f) (list_all (ring.stands (ring_in c)) fs) (sym (stands_by_ring c f) ∙ both.0)
    (all_by_ring c fs both.1)

pub made_stand : (s : Seat) (e : Entry) (frames : List (Signed Body)) → IsSeated s →
    Comes (world_in s) s.actor (list_in s) e
    → frames ≡ frames_after (setup_of (world_in s)) s.actor (list_in s) e →
    list_all (stands (setup_of (world_in s))) frames ≡ true
made_stand s e frames is comes made = ap (list_all (stands (setup_of (world_in s)))) made
    ∙ frames_stand (world_in s) s.actor (list_in s) e s.role comes is.role

pub made_all_stand : (s : Seat) (e : Entry) (frames : List (Signed Body)) → IsSeated s →
    Comes (world_in s) s.actor (list_in s) e
    → frames ≡ frames_after (setup_of (world_in s)) s.actor (list_in s) e → AllStand frames
made_all_stand s e frames is comes made =
    record {
      ring = ring_in (world_in s);
      are_standing =
          all_by_ring (world_in s) frames (made_stand s e frames is comes made);
    }

each_next : (w : Setup) (actor : ℕ) (before list : List Entry) (e : Entry)
    → frames_of_each w actor before (list ++ e ∷ []) ≡ frames_of_each w actor before list
    ++ frames_after w actor (before ++ list) e ∷ []
each_next w actor before [] e = ap (λ (xs : List Entry). frames_after w actor xs e ∷ []) (sym (append-nil before))
each_next w actor before (x ∷ rest) e =
    ap (λ (fs : List (List (Signed Body))). frames_after w actor before x ∷ fs)
    (each_next w actor (before ++ x ∷ []) rest e
    ∙ ap (λ (xs : List Entry). frames_of_each w actor (before ++ x ∷ []) rest ++ frames_after w actor xs e ∷ [])
    (append_assoc before (x ∷ []) rest))

-- the key after the entry
key_next : (c : Contents) (actor signed : ℕ) (own : List Entry) (e : Entry) (k : KeyUse) →
    k ≡ key_use (key_in c actor) (leaves_used (setup_of c) own + signed)
    → key_use k.key (k.used + groups_for (group_size (shares_leaves c)) (length e.said)) ≡ key_use (key_in c actor)
    (leaves_used (setup_of c) (own ++ e ∷ []) + signed)
key_next c actor signed own e k is =
    let groups : groups_for (group_size (shares_leaves c)) (length e.said) ≡ leaves_for
    (setup_of c).shared_leaves (length e.said) =
    groups_use_leaves (shares_leaves c) (length e.said) ∙ ap (λ (b : Bool). leaves_for b (length e.said))
    (sym (shared_is c)) in
    let more = leaves_used_next (setup_of c) own e in
    let same : leaves_used (setup_of c) own + signed + groups_for (group_size (shares_leaves c))
    (length e.said) ≡ leaves_used (setup_of c) (own ++ e ∷ []) + signed = omega arith in
    ap (λ (z : KeyUse). key_use z.key (z.used + groups_for (group_size (shares_leaves c)) (length e.said))) is
    ∙ ap (key_use (key_in c actor)) same

-- The state after the entry is the replay of the longer list.
pub replays_next : (c : Contents) (actor signed : ℕ) (own : List Entry) (e : Entry) (old new : Role) (k : KeyUse)
    (frames : List (List (Signed Body))) (made : List (Signed Body))
    → IsReplay c actor own signed old k frames → Comes c actor own e → IsRole c actor (own ++ e ∷ []) new →
    made ≡ frames_after (setup_of c) actor own e
    → IsReplay c actor (own ++ e ∷ []) signed new
    (key_use k.key (k.used + groups_for (group_size (shares_leaves c)) (length e.said))) (frames ++ made ∷ [])
replays_next c actor signed own e old new k frames made is comes role so = record {
  scenario = is.scenario;
  there = is.there;
  own = is.own;
  entries = one_more_is_bench_list (setup_of c) actor own e is.entries comes.adds;
  role = role;
  key = key_next c actor signed own e k is.key;
  signs = is.signs;
  frames = ap (λ (fs : List (List (Signed Body))). fs ++ made ∷ []) is.frames
      ∙ ap (λ (f : List (Signed Body)). frames_of_each (setup_of c) actor [] own ++ f ∷ []) so
      ∙ sym (each_next (setup_of c) actor [] own e);
}

-- So is a seat's.
pub seated_next : (old new : Seat) (e : Entry) (made : List (Signed Body)) → IsSeated old →
    Comes (world_in old) old.actor (list_in old) e → GoesByTheSame old new
    → list_in new ≡ list_in old ++ e ∷ [] → IsRole (world_in old) old.actor (list_in old ++ e ∷ []) new.role
    → new.key ≡ key_use old.key.key
    (old.key.used + groups_for (group_size (shares_leaves (world_in old))) (length e.said))
    → made ≡ frames_after (setup_of (world_in old)) old.actor (list_in old) e → new.frames.items ≡ old.frames.items
    ++ made ∷ [] → IsSeated new
seated_next old new e made is comes (world, actor, signed) list role key so kept =
    let base = replays_next (world_in old) old.actor old.signed (list_in old) e old.role new.role old.key
    old.frames.items made is comes role so in
    subst (λ (c : Contents). IsReplay c new.actor (list_in new) new.signed new.role new.key new.frames.items)
    (sym world)
    (subst (λ (a : ℕ). IsReplay (world_in old) a (list_in new) new.signed new.role new.key new.frames.items) (sym actor)
    (subst (λ (xs : List Entry). IsReplay (world_in old) old.actor xs new.signed new.role new.key new.frames.items)
    (sym list)
    (subst (λ (n : ℕ). IsReplay (world_in old) old.actor (list_in old ++ e ∷ []) n new.role new.key new.frames.items)
    (sym signed)
    (subst (λ (k : KeyUse). IsReplay (world_in old) old.actor (list_in old ++ e ∷ [])
    old.signed new.role k new.frames.items) (sym key)
    (subst (λ (fs : List (List (Signed Body))). IsReplay (world_in old) old.actor
    (list_in old ++ e ∷ []) old.signed new.role
    (key_use old.key.key (old.key.used + groups_for (group_size (shares_leaves (world_in old))) (length e.said))) fs)
    (sym kept) base)))))
