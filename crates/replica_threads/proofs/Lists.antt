-- Lists of which one element is set, and beginnings of lists.
use Rattle.std.proofs.Common.{◌≡◌, ℕ, zero, suc, ◌+◌, ◌<◌, ◌≤◌, true, false, ◌&&◌, List, [], ◌∷◌, ◌++◌, Option, Some}
use Rattle.std.proofs.Common.{None, length, take, set, get_or, nat_lt, min, ◌⊎◌, inl, inr, refl, sym, ◌∙◌, ap, arith}
use Rattle.std.specs.Prelude.{slice_get}
use Rattle.std.specs.List.{list_all}
use Rattle.std.proofs.lemmas.Bool.{ltb-true, cases_lt}
use Rattle.plain_lists.proofs.Lists.{all_at_place, take_whole, take_suc}

pub get_set_same : {X : Type 0} (xs : List X) (i : ℕ) (x : X) → i < length xs → slice_get (set xs i x) i ≡ Some x
get_set_same [] i x below = absurd (omega arith)
get_set_same (y ∷ ys) zero x below = refl
get_set_same (y ∷ ys) (suc i) x below = get_set_same ys i x (omega arith)

pub get_set_other : {X : Type 0} (xs : List X) (i j : ℕ) (x : X) → (j ≡ i → ⊥) →
    slice_get (set xs i x) j ≡ slice_get xs j
get_set_other [] i j x other = refl
get_set_other (y ∷ ys) zero zero x other = absurd (other refl)
get_set_other (y ∷ ys) zero (suc j) x other = refl
get_set_other (y ∷ ys) (suc i) zero x other = refl
get_set_other (y ∷ ys) (suc i) (suc j) x other = get_set_other ys i j x (λ same. other (ap suc same))

pub get_within : {X : Type 0} (xs : List X) (i : ℕ) (x : X) → slice_get xs i ≡ Some x → i < length xs
get_within [] i x is = absurd cc
get_within (y ∷ ys) zero x is = omega arith
get_within (y ∷ ys) (suc i) x is = let h = get_within ys i x is in omega arith

-- what was read at a place stands there
pub get_read : {X : Type 0} (xs : List X) (i : ℕ) (x : X) → i < length xs → x ≡ get_or xs i x → slice_get xs i ≡ Some x
get_read [] i x below is = absurd (omega arith)
get_read (y ∷ ys) zero x below is = ap Some (sym is)
get_read (y ∷ ys) (suc i) x below is = get_read ys i x (omega arith) is

pub get_there : {X : Type 0} (xs : List X) (i : ℕ) (d : X) → i < length xs → slice_get xs i ≡ Some (get_or xs i d)
get_there [] i d below = absurd (omega arith)
get_there (y ∷ ys) zero d below = refl
get_there (y ∷ ys) (suc i) d below = get_there ys i d (omega arith)

pub some_there : {X : Type 0} (xs : List X) (i : ℕ) → i < length xs → (x : X) × (slice_get xs i ≡ Some x)
some_there [] i below = absurd (omega arith)
some_there (y ∷ ys) zero below = (y, refl)
some_there (y ∷ ys) (suc i) below = some_there ys i (omega arith)

-- the beginning that is longer by one
pub take_one_more : {X : Type 0} (xs : List X) (i : ℕ) (x : X) → slice_get xs i ≡ Some x →
    take (i + 1) xs ≡ take i xs ++ x ∷ []
take_one_more xs i x is = let one : i + 1 ≡ suc i = omega arith in ap (λ n. take n xs) one ∙ take_suc xs i x is

pub take_length : {X : Type 0} (xs : List X) (i : ℕ) → i ≤ length xs → length (take i xs) ≡ i
take_length xs zero below = refl
take_length [] (suc i) below = absurd (omega arith)
take_length (x ∷ xs) (suc i) below = ap suc (take_length xs i (omega arith))

-- a beginning that is no longer than the list
pub take_least : {X : Type 0} (xs : List X) (n : ℕ) → take (min (length xs) n) xs ≡ take n xs
take_least xs n = by (cases_lt n (length xs))
  where
    by : (n < length xs) ⊎ (length xs ≤ n) → take (min (length xs) n) xs ≡ take n xs
    by (inl less) = let same : min (length xs) n ≡ n = omega arith in ap (λ m. take m xs) same
    by (inr more) = let same : min (length xs) n ≡ length xs = omega arith in ap (λ m. take m xs) same
        ∙ take_whole xs (length xs) (omega arith) ∙ sym (take_whole xs n more)

-- each of the numbers is below the bound of all
pub one_below : (bound : ℕ) (xs : List ℕ) (i d : ℕ) → list_all (λ a. nat_lt a bound) xs ≡ true →
    i < length xs → get_or xs i d < bound
one_below bound xs i d all within =
    ltb-true (get_or xs i d) bound
    (all_at_place (λ a. nat_lt a bound) xs i (get_or xs i d) all (get_there xs i d within))
