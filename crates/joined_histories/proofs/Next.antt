-- The next entry of an actor is added.
use Rattle.std.proofs.Common.{◌≡◌, ◌≤◌, ◌<◌, ◌+◌, ◌^◌, ◌&&◌, ℕ, zero, suc, true, false, List, [], ◌∷◌, Option, Some, None}
use Rattle.std.proofs.Common.{length, get_or, set, refl, sym, ◌∙◌, ap, subst, arith, not}
use Rattle.std.specs.Prelude.{nat_lt, replicate, slice_get}
use Rattle.std.proofs.Common.{inl, inr, Result, Ok, Err}
use Rattle.std.specs.Result.{OnOk}
use Rattle.std.proofs.lemmas.Bool.{true≢false, lt-ltb, ltb-false, ltb-true}
use Rattle.std.proofs.lemmas.Option.{slice_get-get_or, slice_get_cases}
use Rattle.std.proofs.lemmas.List.{length-append, length-replicate}
use Rattle.scenario_file.specs.Reading.{Contents}
use Rattle.history_rules.specs.Events.{Event, Entry}
use Rattle.history_rules.specs.Setup.{Setup, own}
use Rattle.history_rules.specs.Keeping.{is_halted}
use Rattle.history_rules.specs.Legal.{TakesWell, IsLegal, says}
use Rattle.world_rules.specs.Scenarios.{setup_of}
use Rattle.printed_history.specs.declared.reading.SoFar.{SoFar}
use Rattle.printed_history.specs.Histories.{entry_with, is_running}
use Rattle.printed_history.specs.Reading.{HasMore, IsBegun, contents_in, world_in}
use Rattle.joint_lists.specs.Plain.{plain}
use Rattle.joint_lists.specs.Joint.{AreStations, IsJoint, count, kept_by}
use Rattle.joint_lists.specs.Joining.{left, placed}
use Rattle.joint_lists.proofs.Joined.{MayJoin, may_join, joined_more, joined_plain, none_joined, all_joined}
use Rattle.joint_lists.proofs.Counted.{left_less, left_first, none_next}
use Rattle.joined_histories.specs.Early.{EarlyOnlyWhereAllAre}
use Rattle.joined_histories.specs.Order.{AllWait, IsDue, IsOrdered, NoneLeft, is_left, is_less, next_waits}
use Rattle.joined_histories.proofs.Left.{HasNext, has_next, next_found}
use Rattle.joined_histories.proofs.Ordering.{none_ordered, ordered_more, whole_ordered}
use Rattle.joined_histories.specs.Amid.{IsAmid}

-- ---- Before the first entry, and behind the last.

pub at_first : (c : Contents) (lists : List (List Entry)) (next : List ℕ) (r : SoFar) → AreStations c lists →
    count lists < 2 ^ 32 → IsBegun c None r → next ≡ replicate (length lists) 0 → IsAmid c lists next r
at_first c lists next r are few begun zeros =
    let empty : length r.history ≡ 0 = ap length begun.none in
    let all : left lists next ≡ count lists = ap (left lists) zeros ∙ left_first lists in
    record {
      is_so_far = begun.is_so_far;
      same = begun.same;
      all = begun.at_hand;
      stations = are;
      joined = none_joined lists next r.history begun.none
          (ap length zeros ∙ length-replicate (length lists) 0)
          (λ actor. ap (λ ns. get_or ns actor 0) zeros ∙ none_next (length lists) actor);
      few = omega (arith, empty, all);
      short = few;
      ordered = none_ordered (setup_of c) lists r.history begun.none;
    }

none_more : (lists : List (List Entry)) (next : List ℕ) (actor : ℕ) → length next ≡ length lists →
    is_left lists next actor ≡ false → length (kept_by lists actor) ≤ get_or next actor 0
none_more [] next actor all is = omega arith
none_more (list ∷ lists) [] actor all is = absurd (omega arith)
none_more (list ∷ lists) (n ∷ next) zero all is = ltb-false n (length list) is
none_more (list ∷ lists) (n ∷ next) (suc actor) all is = none_more lists next actor (omega arith) is

-- what is found at a place, as the standard library tells it
pub found_at : {X : Type 0} (xs : List X) (i : ℕ) (x : X) → true ≡ nat_lt i (length xs) → x ≡ get_or xs i x →
    slice_get xs i ≡ Some x
found_at xs i x below is = slice_get-get_or xs i x (ltb-true i (length xs) (sym below)) ∙ ap Some (sym is)

pub missing_at : {X : Type 0} (xs : List X) (i : ℕ) → false ≡ nat_lt i (length xs) → slice_get xs i ≡ None
missing_at xs i beyond = elim (slice_get_cases xs i).1 [
  | inl inside ↦ absurd (true≢false (sym (lt-ltb i (length xs) inside.1) ∙ sym beyond))
  | inr past ↦ past.1
]

pub joint_at_end : (c : Contents) (lists : List (List Entry)) (next : List ℕ) (r : SoFar) → IsAmid c lists next r →
    NoneLeft lists next → IsJoint c lists r.history
joint_at_end c lists next r amid none =
    all_joined c lists next r.history
    (subst (λ x. IsLegal (setup_of x) r.history) amid.same amid.is_so_far.is_legal) amid.joined
    (λ actor. none_more lists next actor amid.joined.all (none actor))

pub ordered_at_end : (c : Contents) (lists : List (List Entry)) (next : List ℕ) (r : SoFar) → IsAmid c lists next r →
    NoneLeft lists next → EarlyOnlyWhereAllAre (setup_of c) r.history
ordered_at_end c lists next r amid none =
    whole_ordered (setup_of c) lists r.history (joint_at_end c lists next r amid none).each amid.ordered

pub short_at_end : (c : Contents) (lists : List (List Entry)) (next : List ℕ) (r : SoFar) → IsAmid c lists next r →
    length r.history < 2 ^ 32
short_at_end c lists next r amid =
    let most : length r.history + left lists next ≡ count lists = amid.few in
    let short : count lists < 2 ^ 32 = amid.short in
    omega arith

-- ---- One entry more.

-- the entry `x` that an actor kept comes next, with its frame from this stamp and place
pub record ComesNext (c : Contents) (lists : List (List Entry)) (next : List ℕ) (r : SoFar) (actor stamp place : ℕ)
    (x : Entry) (event : Event) : Type 0 where
  pub has : HasNext lists next actor
  pub found : x ≡ get_or (kept_by lists actor) (get_or next actor 0) x
  pub is : event ≡ placed stamp place x.event
  pub low : 0 < length r.history → stamp < length r.history

module _ (c : Contents) (lists : List (List Entry)) (next : List ℕ) (r : SoFar) (actor stamp place : ℕ) (x : Entry)
    (event : Event) (amid : IsAmid c lists next r) (comes : ComesNext c lists next r actor stamp place x event) where
  abbrev w : Setup
  w = setup_of c

  may : MayJoin c r.history actor stamp place x
  may = may_join c r.history lists next actor (get_or next actor 0) stamp place x amid.stations amid.joined refl
      comes.has.some comes.found comes.low

  there : actor < w.group.n + w.group.clients
  there = subst (λ a. a < w.group.n + w.group.clients) may.by may.legal.actor

  goes_on : is_halted w actor (own r.history actor) ≡ false
  goes_on = ap (λ a. is_halted w a (own r.history a)) (sym may.by) ∙ may.legal.running

  pub runs : is_running (world_in r) r.history actor ≡ true
  runs = ap (λ k. is_running (setup_of k) r.history actor) amid.same
      ∙ ap (λ b. nat_lt actor (w.group.n + w.group.clients) && not b) goes_on
      ∙ ap (λ b. b && true) (lt-ltb actor (w.group.n + w.group.clients) there)

  pub fits : (world_in r).fits actor event ≡ true
  fits = ap (λ k. (setup_of k).fits actor event) amid.same ∙ ap (w.fits actor) comes.is
      ∙ ap (λ a. w.fits a (placed stamp place x.event)) (sym may.by) ∙ may.legal.role

  pub takes : TakesWell (world_in r) (length r.history) event
  takes = subst (λ k. TakesWell (setup_of k) (length r.history) event) (sym amid.same)
      (subst (TakesWell w (length r.history)) (sym comes.is) may.legal.taken)

  said : says (world_in r) r.history actor event ≡ x.said
  said = ap (λ k. says (setup_of k) r.history actor event) amid.same
      ∙ ap (λ a. says w r.history a event) (sym may.by)
      ∙ ap (says w r.history x.actor) comes.is
      ∙ sym may.legal.said

  abbrev pub made : Entry
  made = entry_with r.history actor event (says (world_in r) r.history actor event)

  same_plain : plain made ≡ plain x
  same_plain = ap plain (λ i. record {
    stamp = length r.history;
    actor = sym may.by i;
    event = comes.is i;
    said = said i;
  }) ∙ joined_plain r.history stamp place x

  pub one_more : (next_waits w lists next actor ≡ true → AllWait w lists next) → (more : List ℕ) (new : SoFar) →
      HasMore r new made → more ≡ set next actor (get_or next actor 0 + 1) → IsAmid c lists more new
  one_more due more new has grown =
      let less : left lists (set next actor (get_or next actor 0 + 1)) + 1 ≡ left lists next =
      left_less lists next actor comes.has.within comes.has.some in
      let now : left lists more ≡ left lists (set next actor (get_or next actor 0 + 1)) = ap (left lists) grown in
      let longer : length new.history ≡ length r.history + 1 =
      ap length has.longer ∙ length-append r.history (made ∷ []) in
      let before : length r.history + left lists next ≡ count lists = amid.few in
      record {
        is_so_far = has.is_so_far;
        same = has.same ∙ amid.same;
        all = has.at_hand ∙ amid.all;
        stations = amid.stations;
        joined = joined_more lists next more r.history new.history actor (get_or next actor 0) made x amid.joined
            comes.has.within refl comes.has.some comes.found grown has.longer refl same_plain;
        few = omega arith;
        short = amid.short;
        ordered = subst (IsOrdered w lists) (sym has.longer)
            (ordered_more w lists next r.history actor made x amid.joined amid.ordered same_plain
            (next_found lists next actor x comes.has.some comes.found) due);
      }

  pub one_longer : (new : SoFar) → HasMore r new made → length new.history ≡ length r.history + 1
  one_longer new has = ap length has.longer ∙ length-append r.history (made ∷ [])

  pub has_room : length r.history < 2 ^ 32
  has_room = short_at_end c lists next r amid

-- ---- By the scenario at hand.

pub amid_here : (c : Contents) (lists : List (List Entry)) (next : List ℕ) (r : SoFar) → IsAmid c lists next r →
    IsAmid (contents_in r) lists next r
amid_here c lists next r amid = subst (λ x. IsAmid x lists next r) (sym amid.same) amid

pub due_here : (c : Contents) (lists : List (List Entry)) (next : List ℕ) (r : SoFar) (actor : ℕ) → IsAmid c lists next r →
    IsDue (setup_of c) lists next actor →
    next_waits (world_in r) lists next actor ≡ true → AllWait (world_in r) lists next
due_here c lists next r actor amid due =
    subst (λ x. next_waits (setup_of x) lists next actor ≡ true → AllWait (setup_of x) lists next) (sym amid.same) due.waits

pub amid_on : (c : Contents) (lists : List (List Entry)) (next more : List ℕ) (old new : SoFar) → IsAmid c lists next old →
    IsAmid (contents_in old) lists more new → IsAmid c lists more new
amid_on c lists next more old new amid after = subst (λ x. IsAmid x lists more new) amid.same after

-- ---- As the code finds it.

pub next_comes : (c : Contents) (lists : List (List Entry)) (next : List ℕ) (r : SoFar) (actor stamp place entries : ℕ)
    (x : Entry) (event : Event) (ns : List ℕ) → is_left lists next actor ≡ true →
    ns ≡ next → x ≡ get_or (kept_by lists actor) (get_or ns actor 0) x → event ≡ placed stamp place x.event →
    entries ≡ length r.history → (0 < entries → stamp < entries) →
    ComesNext c lists next r actor stamp place x event
next_comes c lists next r actor stamp place entries x event ns left same found is now low = record {
  has = has_next lists next actor left;
  found = subst (λ ms. x ≡ get_or (kept_by lists actor) (get_or ms actor 0) x) same found;
  is = is;
  low = subst (λ n. 0 < n → stamp < n) now low;
}

pub kept_few : (lists : List (List Entry)) (actor : ℕ) → length (kept_by lists actor) ≤ count lists
kept_few [] actor = omega arith
kept_few (list ∷ lists) zero = omega arith
kept_few (list ∷ lists) (suc actor) =
    let rest = kept_few lists actor in
    omega (arith, rest)

-- what holds whatever the answer is
pub on_ok : {A E : Type 0} {X : Type 0} (r : Result A E) → X → OnOk r X
on_ok (Ok a) x = x
on_ok (Err e) x = tt
