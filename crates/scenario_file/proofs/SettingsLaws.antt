-- What holds of the keys that aren't tables.
use Rattle.std.proofs.Common.{◌≡◌, ℕ, ◌+◌, ◌<◌, nat_eq, nat_lt, Bool, true, false, not, ◌||◌, List, [], ◌∷◌, ◌++◌}
use Rattle.std.proofs.Common.{length, take, get_or, refl, sym, ◌∙◌, ap, subst, Result, Ok, None}
use Rattle.std.specs.Prelude.{codes}
use Rattle.std.specs.List.{AllByRecursion}
use Rattle.std.proofs.lemmas.Bool.{and_parts, ltb-true}
use Rattle.std.proofs.lemmas.List.{take_more}
use Rattle.quorum_sets.specs.Masters.{has_master, with_master}
use Rattle.quorum_sets.proofs.MastersLemmas.{voters_same, voters_none, has_master-voters_below}
use Rattle.toml.specs.Data.{Data, Members, get_member}
use Rattle.scenario_file.specs.declared.refusal.ScenarioRefusal.{ScenarioRefusal}
use Rattle.scenario_file.specs.Values.{count_in, integer_in, greatest_count}
use Rattle.scenario_file.specs.Lists.{list_in, number_after, numbers_in}
use Rattle.scenario_file.specs.Settings.{is_new_master, set_of, levels_of, intruded_of}
use Rattle.scenario_file.proofs.Steps.{step, kept-ok}
use Rattle.scenario_file.proofs.RowLaws.{gathered-all}
use Rattle.plain_lists.proofs.Booleans.{nat_eq-flipped, or_middle}

has_master-push : (xs : List ℕ) (m x : ℕ) → has_master (xs ++ m ∷ []) x ≡ (nat_eq x m || has_master xs x)
has_master-push [] m x = ap (λ b. b || false) (nat_eq-flipped m x)
has_master-push (y ∷ ys) m x = ap (λ b. nat_eq y x || b) (has_master-push ys m x)
    ∙ or_middle (nat_eq y x) (nat_eq x m) (has_master ys x)

-- one master more
pub set_of-push : (xs : List ℕ) (m : ℕ) → with_master (set_of xs) m ≡ set_of (xs ++ m ∷ [])
set_of-push xs m = voters_same (λ x. nat_eq x m || has_master (set_of xs) x) (has_master (xs ++ m ∷ [])) 14
    (λ x inside. ap (λ b. nat_eq x m || b) (has_master-voters_below (has_master xs) 14 x inside)
    ∙ sym (has_master-push xs m x))

-- a number that is read may stand where it does
pub number_after-ok : (name : List ℕ) (f : List ℕ → ℕ → Bool) (before : List ℕ) (d : Data) (n : ℕ) →
    number_after name f before d ≡ Ok n → f before n ≡ true
unfolding number_after
number_after-ok name f before d n h =
    step (count_in name 0 greatest_count d) _ n h (λ m counted h1.
    let (passed, same) = kept-ok name (f before m) m n h1 in subst (λ (k : ℕ). f before k ≡ true) same passed)

-- each master that is read is there
pub masters-there : (name : List ℕ) (n : ℕ) (ds : List Data) (ms : List ℕ) →
    numbers_in name (is_new_master n) ds ≡ Ok ms → AllByRecursion (λ m. m < n) ms
masters-there name n ds ms h =
    gathered-all (λ m. m < n) (number_after name (is_new_master n))
    (λ before d m read. ltb-true m n
    (and_parts (nat_lt m n) (not (has_master before m)) (number_after-ok name (is_new_master n) before d m read)).0)
    [] ds ms tt h

-- the levels that are taken where none are given
pub levels_of-default : (doc : Members) → get_member (codes "levels") doc ≡ None → levels_of doc ≡ Ok (5 ∷ 5 ∷ 5 ∷ [])
unfolding levels_of list_in number_after count_in integer_in
levels_of-default doc none = rw none refl

pub set_of-more : (xs : List ℕ) (i : ℕ) (set new : List ℕ) → i < length xs → set ≡ set_of (take i xs) →
    new ≡ with_master set (get_or xs i 0) → new ≡ set_of (take (i + 1) xs)
set_of-more xs i set new inside so_far added =
    added ∙ ap (λ s. with_master s (get_or xs i 0)) so_far ∙ set_of-push (take i xs) (get_or xs i 0)
    ∙ ap set_of (sym (take_more xs i 0 inside))

pub set_of-none : set_of [] ≡ []
set_of-none = voters_none 14

abbrev taken : List ℕ → Result (List ℕ) ScenarioRefusal
taken masters = Ok masters

-- where no masters are named, none is intruded
pub intruded_of-default : (n : ℕ) (doc : Members) → get_member (codes "intruded") doc ≡ None → intruded_of n doc ≡ Ok []
unfolding intruded_of list_in
intruded_of-default n doc none = rw none (ap taken set_of-none)
