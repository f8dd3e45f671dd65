-- A legal history of few entries of each actor is short: its entries are counted actor by actor, and a scenario has at most
-- 26 actors.
use Rattle.std.proofs.Common.{◌≡◌, ℕ, zero, suc, ◌+◌, ◌*◌, ◌^◌, ◌<◌, ◌≤◌, Bool, true, false, cond, not, List, [], ◌∷◌}
use Rattle.std.proofs.Common.{length, filter, nat_eq, nat_lt, inl, inr, refl, ap, subst, arith}
use Rattle.std.proofs.lemmas.Bool.{lt-ltb, le-ltb, eq-eqb, cases_lt, cases_eq}
use Rattle.std.proofs.lemmas.List.Filters.{length-filter_both}
use Rattle.plain_lists.specs.Lists.{IsIn}
use Rattle.protocol_rules.specs.Group.{Group}
use Rattle.scenario_file.specs.Reading.{Contents}
use Rattle.scenario_file.specs.Valid.{IsScenario}
use Rattle.history_rules.specs.Events.{Entry}
use Rattle.history_rules.specs.Setup.{own}
use Rattle.history_rules.specs.Legal.{IsLegal}
use Rattle.history_rules.proofs.Entries.{own_fewer}
use Rattle.agreement.proofs.Places.{stands_in}
use Rattle.history_laws.proofs.Forged.{filter_none}
use Rattle.world_rules.specs.Scenarios.{setup_of, actors_in}
use Rattle.world_rules.proofs.Fields.{group_is}
use Rattle.history_audit.specs.Counting.{AreFewEach}
use Rattle.history_audit.specs.Legal.{FewEachAreShort, ShortAreFewEach}

abbrev is_below : ℕ → Entry → Bool
is_below m e = nat_lt e.actor m

abbrev one_if : Bool → ℕ
one_if b = cond b 1 0

at_most_one : (b : Bool) → one_if b ≤ 1
at_most_one true = omega arith
at_most_one false = omega arith

-- an actor below m + 1 is below m, or is m
below_or_last : (a m : ℕ) → one_if (nat_lt a (suc m)) ≤ one_if (nat_lt a m) + one_if (nat_eq a m)
below_or_last a m = elim (cases_lt a m) [
  | inl below ↦
      let most : one_if (nat_lt a (suc m)) ≤ 1 = at_most_one (nat_lt a (suc m)) in
      let here : one_if (nat_lt a m) ≡ 1 = ap one_if (lt-ltb a m below) in
      omega arith
  | inr above ↦ elim (cases_eq a m) [
    | inl is ↦
        let most : one_if (nat_lt a (suc m)) ≤ 1 = at_most_one (nat_lt a (suc m)) in
        let here : one_if (nat_eq a m) ≡ 1 = ap one_if (eq-eqb a m is) in
        omega arith
    | inr other ↦
        let none : one_if (nat_lt a (suc m)) ≡ 0 = ap one_if (le-ltb a (suc m) (omega arith)) in
        omega arith
  ]
]

joined : {X : Type 0} (b : Bool) (x : X) (xs : List X) → length (cond b (x ∷ xs) xs) ≡ one_if b + length xs
joined true x xs = omega arith
joined false x xs = omega arith

one_more : {X : Type 0} (x : X) (xs ys zs : List X) (a b c : Bool) → one_if a ≤ one_if b + one_if c →
    length xs ≤ length ys + length zs
    → length (cond a (x ∷ xs) xs) ≤ length (cond b (x ∷ ys) ys) + length (cond c (x ∷ zs) zs)
one_more {X} x xs ys zs a b c one rest =
    let first : length (cond a (x ∷ xs) xs) ≡ one_if a + length xs = joined a x xs in
    let second : length (cond b (x ∷ ys) ys) ≡ one_if b + length ys = joined b x ys in
    let third : length (cond c (x ∷ zs) zs) ≡ one_if c + length zs = joined c x zs in
    omega arith

-- one actor's entries more
below_next : (m : ℕ) (es : List Entry)
    → length (filter (is_below (suc m)) es) ≤ length (filter (is_below m) es) + length (own es m)
unfolding own
below_next m [] = omega arith
below_next m (e ∷ es) =
    one_more e (filter (is_below (suc m)) es) (filter (is_below m) es) (filter (λ (x : Entry). nat_eq x.actor m) es)
    (nat_lt e.actor (suc m)) (nat_lt e.actor m) (nat_eq e.actor m) (below_or_last e.actor m) (below_next m es)

few_below : (history : List Entry) → AreFewEach history → (m : ℕ)
    → length (filter (is_below m) history) ≤ m * 2 ^ 32
few_below history each zero =
    let none : length (filter (is_below 0) history) ≡ 0 =
    ap length (filter_none (is_below 0) history (λ e h. le-ltb e.actor 0 (omega arith))) in
    omega arith
few_below history each (suc m) =
    let earlier : length (filter (is_below m) history) ≤ m * 2 ^ 32 = few_below history each m in
    let last : length (own history m) ≤ 2 ^ 32 = each m in
    let next : length (filter (is_below (suc m)) history) ≤ length (filter (is_below m) history)
    + length (own history m) = below_next m history in
    omega arith

-- where each entry's actor is below a number, those below it are all
all_below : (m : ℕ) (history : List Entry) → ((e : Entry) → IsIn e history → e.actor < m)
    → length (filter (is_below m) history) ≡ length history
all_below m history low =
    let none : length (filter (λ (e : Entry). not (is_below m e)) history) ≡ 0 =
    ap length (filter_none (λ (e : Entry). not (is_below m e)) history (λ e h. ap not (lt-ltb e.actor m (low e h)))) in
    let both : length (filter (is_below m) history) + length (filter (λ (e : Entry). not (is_below m e)) history)
    ≡ length history =
    length-filter_both (is_below m) (λ (e : Entry). not (is_below m e)) (λ e. refl) history in
    omega arith

actor_there : (c : Contents) (history : List Entry) → IsLegal (setup_of c) history → (e : Entry) → IsIn e history
    → e.actor < actors_in c
actor_there c history legal e h =
    let place = stands_in history h in
    subst (λ (g : Group). e.actor < g.n + g.clients) (group_is c) (legal.entries place.0 e place.1).actor

few_actors : (c : Contents) → IsScenario c → actors_in c ≤ 26
few_actors c is =
    let devices = is.plant.devices in
    let screens = is.at_most_four_screens in
    let f = is.group.at_most_three_intruded in
    let k = is.group.at_most_two_away in
    omega arith

pub few_each_are_short : FewEachAreShort
few_each_are_short c history is legal each =
    let whole : length (filter (is_below (actors_in c)) history) ≡ length history =
    all_below (actors_in c) history (actor_there c history legal) in
    let few : length (filter (is_below (actors_in c)) history) ≤ actors_in c * 2 ^ 32 =
    few_below history each (actors_in c) in
    let actors : actors_in c ≤ 26 = few_actors c is in
    omega arith

pub short_are_few_each : ShortAreFewEach
short_are_few_each history short actor =
    let fewer : length (own history actor) ≤ length history = own_fewer history actor in
    omega arith

-- so is one of fewer entries in all
pub few_each_below : (history : List Entry) → length history < 2 ^ 32 → AreFewEach history
few_each_below history short = short_are_few_each history (omega arith)
