-- The number above which so many others of some numbers stand is the greatest that one more than so many reach. Both say
-- the same of the numbers in falling order, where it is the one at that place.
use Rattle.std.proofs.Common.{◌≡◌, ℕ, zero, suc, ◌+◌, ◌<◌, ◌≤◌, Bool, true, false, cond, ◌&&◌, List, [], ◌∷◌, ◌++◌}
use Rattle.std.proofs.Common.{filter, reverse, length, get_or, max, nat_le, refl, sym, ◌∙◌, ap, subst, inl, inr, ◌⊎◌, arith}
use Rattle.std.specs.List.{list_all}
use Rattle.std.proofs.lemmas.Bool.{leb-true, leb-false, le-leb, lt-leb, and_parts, and_from, cases_lt}
use Rattle.std.proofs.lemmas.List.{reverse-append, length-append}
use Rattle.std.proofs.lemmas.List.Elements.{filter-append}
use Rattle.std.proofs.lemmas.List.Folds.{list_all-append}
use Rattle.protocol_rules.specs.Words.{greatest_of, greatest_reached, in_order, put_in_order}
use Rattle.protocol_rules.proofs.Greatest.{greatest_of-append}

-- how many of the numbers reach x
abbrev many : ℕ → List ℕ → ℕ
many x xs = length (filter (λ y. nat_le x y) xs)

-- one where it is so
abbrev one_if : Bool → ℕ
one_if true = 1
one_if false = 0

-- the greatest of those that pass
abbrev best : (ℕ → Bool) → List ℕ → ℕ
best p xs = greatest_of (filter p xs)

-- the first is no less than the others, and so on
abbrev Falling : List ℕ → Type 0
Falling [] = Unit {0}
Falling (x ∷ rest) = (list_all (λ y. nat_le y x) rest ≡ true) × Falling rest

abbrev Rising : List ℕ → Type 0
Rising [] = Unit {0}
Rising (x ∷ rest) = (list_all (λ y. nat_le x y) rest ≡ true) × Rising rest

-- what is counted so, or found so, is the same in any order: of each number alone comes one part, and parts are added
-- in any order
many-cons : (x y : ℕ) (xs : List ℕ) → many x (y ∷ xs) ≡ one_if (nat_le x y) + many x xs
many-cons x y xs = by (nat_le x y)
  where
    by : (b : Bool) → length (cond b (y ∷ filter (λ z. nat_le x z) xs) (filter (λ z. nat_le x z) xs)) ≡ one_if b
        + many x xs
    by true = omega arith
    by false = omega arith

best-cons : (p : ℕ → Bool) (y : ℕ) (xs : List ℕ) → best p (y ∷ xs) ≡ max (cond (p y) y 0) (best p xs)
best-cons p y xs = by (p y)
  where
    by : (b : Bool) → greatest_of (cond b (y ∷ filter p xs) (filter p xs)) ≡ max (cond b y 0) (best p xs)
    by true = refl
    by false = omega arith

many-put : (x y : ℕ) (xs : List ℕ) → many x (put_in_order y xs) ≡ one_if (nat_le x y) + many x xs
many-put x y [] = many-cons x y []
many-put x y (z ∷ rest) = by (nat_le y z) (many-put x y rest)
  where
    by : (b : Bool) → many x (put_in_order y rest) ≡ one_if (nat_le x y) + many x rest →
        many x (cond b (y ∷ z ∷ rest) (z ∷ put_in_order y rest)) ≡ one_if (nat_le x y) + many x (z ∷ rest)
    by true more = many-cons x y (z ∷ rest)
    by false more =
        let one : many x (z ∷ put_in_order y rest) ≡ one_if (nat_le x z) + many x (put_in_order y rest) =
        many-cons x z (put_in_order y rest) in
        let two : many x (z ∷ rest) ≡ one_if (nat_le x z) + many x rest = many-cons x z rest in
        omega arith

best-put : (p : ℕ → Bool) (y : ℕ) (xs : List ℕ) → best p (put_in_order y xs) ≡ max (cond (p y) y 0) (best p xs)
best-put p y [] = best-cons p y []
best-put p y (z ∷ rest) = by (nat_le y z) (best-put p y rest)
  where
    by : (b : Bool) → best p (put_in_order y rest) ≡ max (cond (p y) y 0) (best p rest) →
        best p (cond b (y ∷ z ∷ rest) (z ∷ put_in_order y rest)) ≡ max (cond (p y) y 0) (best p (z ∷ rest))
    by true more = best-cons p y (z ∷ rest)
    by false more =
        let one : best p (z ∷ put_in_order y rest) ≡ max (cond (p z) z 0) (best p (put_in_order y rest)) =
        best-cons p z (put_in_order y rest) in
        let two : best p (z ∷ rest) ≡ max (cond (p z) z 0) (best p rest) = best-cons p z rest in
        omega arith

many-order : (x : ℕ) (xs : List ℕ) → many x (in_order xs) ≡ many x xs
unfolding in_order
many-order x [] = refl
many-order x (y ∷ rest) =
    many-put x y (in_order rest) ∙ ap (λ n. one_if (nat_le x y) + n) (many-order x rest)
    ∙ sym (many-cons x y rest)

best-order : (p : ℕ → Bool) (xs : List ℕ) → best p (in_order xs) ≡ best p xs
unfolding in_order
best-order p [] = refl
best-order p (y ∷ rest) =
    best-put p y (in_order rest) ∙ ap (max (cond (p y) y 0)) (best-order p rest) ∙ sym (best-cons p y rest)

-- the last of a list stands first in it the other way round
turned : (y : ℕ) (xs : List ℕ) → reverse (y ∷ xs) ≡ reverse xs ++ y ∷ []
turned y xs = reverse-append (y ∷ []) xs

many-turned : (x : ℕ) (xs : List ℕ) → many x (reverse xs) ≡ many x xs
many-turned x [] = refl
many-turned x (y ∷ rest) =
    let more : many x (reverse rest) ≡ many x rest = many-turned x rest in
    let split : many x (reverse rest ++ y ∷ []) ≡ many x (reverse rest) + many x (y ∷ []) =
    ap length (filter-append (λ z. nat_le x z) (reverse rest) (y ∷ []))
    ∙ length-append (filter (λ z. nat_le x z) (reverse rest)) (filter (λ z. nat_le x z) (y ∷ [])) in
    let one : many x (y ∷ []) ≡ one_if (nat_le x y) + 0 = many-cons x y [] in
    let two : many x (y ∷ rest) ≡ one_if (nat_le x y) + many x rest = many-cons x y rest in
    let last : many x (reverse (y ∷ rest)) ≡ many x (reverse rest ++ y ∷ []) = ap (many x) (turned y rest) in
    omega arith

best-turned : (p : ℕ → Bool) (xs : List ℕ) → best p (reverse xs) ≡ best p xs
best-turned p [] = refl
best-turned p (y ∷ rest) =
    let more : best p (reverse rest) ≡ best p rest = best-turned p rest in
    let split : best p (reverse rest ++ y ∷ []) ≡ max (best p (reverse rest)) (best p (y ∷ [])) =
    ap greatest_of (filter-append p (reverse rest) (y ∷ []))
    ∙ greatest_of-append (filter p (reverse rest)) (filter p (y ∷ [])) in
    let one : best p (y ∷ []) ≡ max (cond (p y) y 0) 0 = best-cons p y [] in
    let two : best p (y ∷ rest) ≡ max (cond (p y) y 0) (best p rest) = best-cons p y rest in
    let last : best p (reverse (y ∷ rest)) ≡ best p (reverse rest ++ y ∷ []) = ap (best p) (turned y rest) in
    omega arith

-- what holds of all stays so where one is put among them
all-put : (p : ℕ → Bool) (y : ℕ) (xs : List ℕ) → p y ≡ true → list_all p xs ≡ true →
    list_all p (put_in_order y xs) ≡ true
all-put p y [] here rest = and_from (p y) true here refl
all-put p y (z ∷ xs) here rest =
    by (nat_le y z) (and_parts (p z) (list_all p xs) rest) (all-put p y xs here)
  where
    by : (b : Bool) → (p z ≡ true) × (list_all p xs ≡ true) → (list_all p xs ≡ true → list_all p
        (put_in_order y xs) ≡ true) → list_all p (cond b (y ∷ z ∷ xs) (z ∷ put_in_order y xs)) ≡ true
    by true both more = and_from (p y) (p z && list_all p xs) here (and_from (p z) (list_all p xs) both.0 both.1)
    by false both more = and_from (p z) (list_all p (put_in_order y xs)) both.0 (more both.1)

-- those above one number are above a lower one
all-lower : (x y : ℕ) (xs : List ℕ) → x ≤ y → list_all (λ z. nat_le y z) xs ≡ true →
    list_all (λ z. nat_le x z) xs ≡ true
all-lower x y [] less all = refl
all-lower x y (z ∷ rest) less all =
    let both : (nat_le y z ≡ true) × (list_all (λ w. nat_le y w) rest ≡ true) =
    and_parts (nat_le y z) (list_all (λ w. nat_le y w) rest) all in
    let one : y ≤ z = leb-true y z both.0 in
    and_from (nat_le x z) (list_all (λ w. nat_le x w) rest) (le-leb x z (omega arith)) (all-lower x y rest less both.1)

rising-put : (y : ℕ) (xs : List ℕ) → Rising xs → Rising (put_in_order y xs)
rising-put y [] up = (refl, tt)
rising-put y (z ∷ rest) up = by (nat_le y z) refl (rising-put y rest up.1)
  where
    by : (b : Bool) → nat_le y z ≡ b → Rising (put_in_order y rest) →
        Rising (cond b (y ∷ z ∷ rest) (z ∷ put_in_order y rest))
    by true e more = (
      and_from (nat_le y z) (list_all (λ w. nat_le y w) rest) e (all-lower y z rest (leb-true y z e) up.0),
      up,
    )
    by false e more =
        let below : z < y = leb-false y z e in
        (all-put (λ w. nat_le z w) y rest (le-leb z y (omega arith)) up.0, more)

rising-order : (xs : List ℕ) → Rising (in_order xs)
unfolding in_order
rising-order [] = tt
rising-order (x ∷ rest) = rising-put x (in_order rest) (rising-order rest)

all-turned : (p : ℕ → Bool) (xs : List ℕ) → list_all p xs ≡ true → list_all p (reverse xs) ≡ true
all-turned p [] all = refl
all-turned p (y ∷ rest) all =
    let both : (p y ≡ true) × (list_all p rest ≡ true) = and_parts (p y) (list_all p rest) all in
    ap (list_all p) (turned y rest) ∙ list_all-append p (reverse rest) (y ∷ [])
    ∙ and_from (list_all p (reverse rest)) (p y && true) (all-turned p rest both.1) (and_from (p y) true both.0 refl)

falling-push : (r : ℕ) (xs : List ℕ) → list_all (λ y. nat_le r y) xs ≡ true → Falling xs → Falling (xs ++ r ∷ [])
falling-push r [] all down = (refl, tt)
falling-push r (x ∷ rest) all down =
    let both : (nat_le r x ≡ true) × (list_all (λ y. nat_le r y) rest ≡ true) =
    and_parts (nat_le r x) (list_all (λ y. nat_le r y) rest) all in (
      list_all-append (λ y. nat_le y x) rest (r ∷ [])
          ∙ and_from (list_all (λ y. nat_le y x) rest) (nat_le r x && true) down.0
          (and_from (nat_le r x) true both.0 refl),
      falling-push r rest both.1 down.1,
    )

falling-turned : (xs : List ℕ) → Rising xs → Falling (reverse xs)
falling-turned [] up = tt
falling-turned (x ∷ rest) up =
    subst Falling (sym (turned x rest))
    (falling-push x (reverse rest) (all-turned (λ y. nat_le x y) rest up.0) (falling-turned rest up.1))

-- in falling order all are at most the first
below_first : (x : ℕ) (xs : List ℕ) (place : ℕ) → list_all (λ y. nat_le y x) xs ≡ true → get_or xs place 0 ≤ x
below_first x [] place all = omega arith
below_first x (y ∷ rest) zero all =
    leb-true y x ((and_parts (nat_le y x) (list_all (λ z. nat_le z x) rest) all).0)
below_first x (y ∷ rest) (suc place) all =
    below_first x rest place ((and_parts (nat_le y x) (list_all (λ z. nat_le z x) rest) all).1)

-- of what is below x none reaches it
none_reach : (x top : ℕ) (xs : List ℕ) → top < x → list_all (λ y. nat_le y top) xs ≡ true → many x xs ≡ 0
none_reach x top [] less all = refl
none_reach x top (y ∷ rest) less all =
    let both : (nat_le y top ≡ true) × (list_all (λ z. nat_le z top) rest ≡ true) =
    and_parts (nat_le y top) (list_all (λ z. nat_le z top) rest) all in
    let below : y ≤ top = leb-true y top both.0 in
    let one : many x (y ∷ rest) ≡ one_if (nat_le x y) + many x rest = many-cons x y rest in
    let none : one_if (nat_le x y) ≡ 0 = ap one_if (lt-leb x y (omega arith)) in
    let more : many x rest ≡ 0 = none_reach x top rest less both.1 in
    omega arith

-- what more than `place` of them reach is at most the one at that place
reach_place : (x : ℕ) (xs : List ℕ) (place : ℕ) → Falling xs → place < many x xs → x ≤ get_or xs place 0
reach_place x [] place down more = absurd (omega arith)
reach_place x (y ∷ rest) zero down more = by (cases_lt y x)
  where
    by : (y < x) ⊎ (x ≤ y) → x ≤ y
    by (inl less) =
        let one : many x (y ∷ rest) ≡ one_if (nat_le x y) + many x rest = many-cons x y rest in
        let none : one_if (nat_le x y) ≡ 0 = ap one_if (lt-leb x y less) in
        let others : many x rest ≡ 0 = none_reach x y rest less down.0 in
        absurd (omega arith)
    by (inr le) = le
reach_place x (y ∷ rest) (suc place) down more =
    let one : many x (y ∷ rest) ≡ one_if (nat_le x y) + many x rest = many-cons x y rest in
    let few : one_if (nat_le x y) ≤ 1 = by (nat_le x y) in
    reach_place x rest place down.1 (omega arith)
  where
    by : (b : Bool) → one_if b ≤ 1
    by true = omega arith
    by false = omega arith

-- and the one at the place is reached by more than `place`
place_reached : (xs : List ℕ) (place : ℕ) → Falling xs → place < length xs → place < many (get_or xs place 0) xs
place_reached [] place down within = absurd (omega arith)
place_reached (y ∷ rest) zero down within =
    let one : many y (y ∷ rest) ≡ one_if (nat_le y y) + many y rest = many-cons y y rest in
    let here : one_if (nat_le y y) ≡ 1 = ap one_if (le-leb y y (omega arith)) in
    omega arith
place_reached (y ∷ rest) (suc place) down within =
    let x : ℕ = get_or rest place 0 in
    let one : many x (y ∷ rest) ≡ one_if (nat_le x y) + many x rest = many-cons x y rest in
    let here : one_if (nat_le x y) ≡ 1 = ap one_if (le-leb x y (below_first y rest place down.0)) in
    let more : place < many x rest = place_reached rest place down.1 (omega arith) in
    omega arith

-- one that passes is at most the best, and the best is no more than all that pass are
best_covers : (p : ℕ → Bool) (xs : List ℕ) (place : ℕ) → place < length xs → p (get_or xs place 0) ≡ true →
    get_or xs place 0 ≤ best p xs
best_covers p [] place within passes = absurd (omega arith)
best_covers p (y ∷ rest) zero within passes =
    let one : best p (y ∷ rest) ≡ max (cond (p y) y 0) (best p rest) = best-cons p y rest in
    let here : cond (p y) y 0 ≡ y = ap (λ (b : Bool). cond b y 0) passes in
    omega arith
best_covers p (y ∷ rest) (suc place) within passes =
    let one : best p (y ∷ rest) ≡ max (cond (p y) y 0) (best p rest) = best-cons p y rest in
    let more : get_or rest place 0 ≤ best p rest = best_covers p rest place (omega arith) passes in
    omega arith

best_within : (p : ℕ → Bool) (top : ℕ) (xs : List ℕ) → ((x : ℕ) → p x ≡ true → x ≤ top) → best p xs ≤ top
best_within p top [] all = omega arith
best_within p top (y ∷ rest) all =
    let one : best p (y ∷ rest) ≡ max (cond (p y) y 0) (best p rest) = best-cons p y rest in
    let here : cond (p y) y 0 ≤ top = by (p y) refl in
    let more : best p rest ≤ top = best_within p top rest all in
    omega arith
  where
    by : (b : Bool) → p y ≡ b → cond b y 0 ≤ top
    by true e = all y e
    by false e = omega arith

first_low : (top : ℕ) (b : Bool) (y : ℕ) → y ≤ top → cond b y 0 ≤ top
first_low top true y here = here
first_low top false y here = omega arith

all_low : (p : ℕ → Bool) (top : ℕ) (xs : List ℕ) → list_all (λ y. nat_le y top) xs ≡ true → best p xs ≤ top
all_low p top [] all = omega arith
all_low p top (y ∷ rest) all =
    let both : (nat_le y top ≡ true) × (list_all (λ z. nat_le z top) rest ≡ true) =
    and_parts (nat_le y top) (list_all (λ z. nat_le z top) rest) all in
    let one : best p (y ∷ rest) ≡ max (cond (p y) y 0) (best p rest) = best-cons p y rest in
    let more : best p rest ≤ top = all_low p top rest both.1 in
    let first : cond (p y) y 0 ≤ top = first_low top (p y) y (leb-true y top both.0) in
    omega arith

pub best_low : (least top : ℕ) (xs : List ℕ) → list_all (λ y. nat_le y top) xs ≡ true → greatest_reached least xs ≤ top
best_low least top xs = all_low (λ x. nat_le least (many x xs)) top xs

past_end : (xs : List ℕ) (place : ℕ) → length xs ≤ place → get_or xs place 0 ≡ 0
past_end [] place past = refl
past_end (x ∷ rest) zero past = absurd (omega arith)
past_end (x ∷ rest) (suc place) past = past_end rest place (omega arith)

in_falling : (xs : List ℕ) (place : ℕ) → Falling xs → greatest_reached (place + 1) xs ≡ get_or xs place 0
in_falling xs place down =
    let high : greatest_reached (place + 1) xs ≤ get_or xs place 0 =
    best_within (λ x. nat_le (place + 1) (many x xs)) (get_or xs place 0) xs
    (λ x passes. reach_place x xs place down (let more : place + 1 ≤ many x xs =
    leb-true (place + 1) (many x xs) passes in omega arith)) in
    let low : get_or xs place 0 ≤ greatest_reached (place + 1) xs = by (cases_lt place (length xs)) in
    omega arith
  where
    by : (place < length xs) ⊎ (length xs ≤ place) → get_or xs place 0 ≤ greatest_reached (place + 1) xs
    by (inl within) =
        let more : place < many (get_or xs place 0) xs = place_reached xs place down within in
        best_covers (λ x. nat_le (place + 1) (many x xs)) xs place within
        (le-leb (place + 1) (many (get_or xs place 0) xs) (omega arith))
    by (inr past) = let none : get_or xs place 0 ≡ 0 = past_end xs place past in omega arith

-- the tests that decide are the same in any order
same_tests : (least : ℕ) (xs ys : List ℕ) → ((x : ℕ) → many x xs ≡ many x ys) →
    best (λ x. nat_le least (many x xs)) xs ≡ best (λ x. nat_le least (many x ys)) xs
same_tests least xs ys same = λ i. best (λ x. nat_le least (same x i)) xs

-- The number above which so many others stand is the greatest that one more reach.
pub ranked-reached : (xs : List ℕ) (place : ℕ) →
    greatest_reached (place + 1) xs ≡ get_or (reverse (in_order xs)) place 0
ranked-reached xs place =
    let same : (x : ℕ) → many x (reverse (in_order xs)) ≡ many x xs =
    λ x. many-turned x (in_order xs) ∙ many-order x xs in
    sym (best-turned (λ x. nat_le (place + 1) (many x xs)) (in_order xs)
    ∙ best-order (λ x. nat_le (place + 1) (many x xs)) xs)
    ∙ sym (same_tests (place + 1) (reverse (in_order xs)) xs same)
    ∙ in_falling (reverse (in_order xs)) place (falling-turned (in_order xs) (rising-order xs))
