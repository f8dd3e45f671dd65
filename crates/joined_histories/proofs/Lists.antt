-- Lists of stations stay such as files come.
use Rattle.std.proofs.Common.{◌≡◌, ◌≤◌, ◌<◌, ◌+◌, ◌*◌, ℕ, zero, suc, List, [], ◌∷◌, length, set, refl, sym, ◌∙◌, ap, subst, arith}
use Rattle.std.proofs.Common.{inl, inr, ◌⊎◌, true}
use Rattle.std.specs.Prelude.{replicate, slice_get}
use Rattle.std.proofs.lemmas.Bool.{cases_eq}
use Rattle.std.proofs.lemmas.List.{length-set, length-replicate}
use Rattle.scenario_file.specs.Reading.{Contents}
use Rattle.history_rules.specs.Events.{Entry}
use Rattle.history_laws.proofs.EntryByEntry.{none_is_legal}
use Rattle.world_rules.specs.Scenarios.{setup_of, actors_in}
use Rattle.joint_lists.specs.Stations.{IsStation}
use Rattle.joint_lists.specs.Joint.{AreStations, count, kept_by, list_or_none}
use Rattle.joined_histories.specs.declared.files.Kept.{Kept}
use Rattle.joined_histories.specs.Files.{AreKept, given_of, none_given}

none_is_station : (c : Contents) (actor : ℕ) → IsStation c actor []
none_is_station c actor = record { legal = none_is_legal (setup_of c); alone = refl }

pub no_list : (many actor : ℕ) → list_or_none (slice_get (replicate many []) actor) ≡ []
no_list zero actor = refl
no_list (suc many) zero = refl
no_list (suc many) (suc actor) = no_list many actor

count_none : (many : ℕ) → count (replicate many []) ≡ 0
count_none zero = refl
count_none (suc many) = let rest = count_none many in omega (arith, rest)

-- before the first file
pub none_kept : (c : Contents) (read : Kept) → given_of read ≡ none_given c → AreKept c 0 read
none_kept c read is =
    let lists : read.lists.items ≡ replicate (actors_in c) [] = ap (λ g. g.lists) is in
    let gave : length read.gave.items ≡ actors_in c = ap (λ g. length g.gave) is ∙ length-replicate (actors_in c) _ in
    let many : length read.lists.items ≡ actors_in c = ap length lists ∙ length-replicate (actors_in c) _ in
    let none : count read.lists.items ≡ 0 = ap count lists ∙ count_none (actors_in c) in
    record {
      stations = record {
        all = many;
        each = λ actor. subst (IsStation c actor)
            (sym (ap (λ ls. kept_by ls actor) lists ∙ no_list (actors_in c) actor)) (none_is_station c actor);
      };
      alike = many ∙ sym gave;
      few = omega (arith, none);
    }

pub set_there : (lists : List (List Entry)) (actor : ℕ) (list : List Entry) → actor < length lists →
    kept_by (set lists actor list) actor ≡ list
set_there [] actor list there = absurd (omega arith)
set_there (x ∷ lists) zero list there = refl
set_there (x ∷ lists) (suc actor) list there = set_there lists actor list (omega arith)

pub set_beside : (lists : List (List Entry)) (actor other : ℕ) (list : List Entry) → (other ≡ actor → ⊥) →
    kept_by (set lists actor list) other ≡ kept_by lists other
set_beside [] actor other list apart = refl
set_beside (x ∷ lists) zero zero list apart = absurd (apart refl)
set_beside (x ∷ lists) zero (suc other) list apart = refl
set_beside (x ∷ lists) (suc actor) zero list apart = refl
set_beside (x ∷ lists) (suc actor) (suc other) list apart =
    set_beside lists actor other list (λ e. apart (ap suc e))

count_set : (lists : List (List Entry)) (actor : ℕ) (list : List Entry) →
    count (set lists actor list) ≤ count lists + length list
count_set [] actor list = omega arith
count_set (x ∷ lists) zero list = omega arith
count_set (x ∷ lists) (suc actor) list =
    let rest = count_set lists actor list in
    omega (arith, rest)

stations_set : (c : Contents) (lists : List (List Entry)) (actor : ℕ) (list : List Entry) → AreStations c lists →
    actor < length lists → IsStation c actor list → AreStations c (set lists actor list)
stations_set c lists actor list are there is = record {
  all = length-set lists actor list ∙ are.all;
  each = λ other. by other (cases_eq other actor);
}
  where
    by : (other : ℕ) → (other ≡ actor) ⊎ (other ≡ actor → ⊥) → IsStation c other (kept_by (set lists actor list) other)
    by other (inl same) =
        subst (λ a. IsStation c a (kept_by (set lists actor list) a)) (sym same)
        (subst (IsStation c actor) (sym (set_there lists actor list there)) is)
    by other (inr apart) = subst (IsStation c other) (sym (set_beside lists actor other list apart)) (are.each other)

-- one list more
pub one_kept : (c : Contents) (bytes more actor : ℕ) (list : List Entry) (old new : Kept) → AreKept c bytes old →
    new.lists.items ≡ set old.lists.items actor list → new.gave.items ≡ set old.gave.items actor true →
    actor < length old.lists.items → IsStation c actor list → length list * 72 ≤ more → AreKept c (bytes + more) new
one_kept c bytes more actor list old new are lists gave there is short =
    let few : count (set old.lists.items actor list) ≤ count old.lists.items + length list =
    count_set old.lists.items actor list in
    let before : count old.lists.items * 72 ≤ bytes = are.few in
    let now : count new.lists.items ≡ count (set old.lists.items actor list) = ap count lists in
    record {
      stations = subst (AreStations c) (sym lists) (stations_set c old.lists.items actor list are.stations there is);
      alike = ap length lists ∙ length-set old.lists.items actor list ∙ are.alike
          ∙ sym (length-set old.gave.items actor true) ∙ sym (ap length gave);
      few = omega arith;
    }

-- no list more, and more bytes all the same
pub none_more : (c : Contents) (bytes more : ℕ) (old new : Kept) → new ≡ old → AreKept c bytes old →
    AreKept c (bytes + more) new
none_more c bytes more old new same are =
    let few : count old.lists.items * 72 ≤ bytes = are.few in
    subst (AreKept c (bytes + more)) (sym same)
    (record { stations = are.stations; alike = are.alike; few = omega arith })
