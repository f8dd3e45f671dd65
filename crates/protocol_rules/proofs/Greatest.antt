-- The greatest of numbers, and of those that a function gives of a list's members.
use Rattle.std.proofs.Common.{◌≡◌, ℕ, ◌≤◌, Bool, true, false, ◌||◌, List, [], ◌∷◌, ◌++◌, Option, Some, None, max}
use Rattle.std.proofs.Common.{refl, ◌∙◌, ap, inl, inr, ◌⊎◌, arith, if◌then◌else◌}
use Rattle.std.specs.List.{list_any, filter_map, cons_option}
use Rattle.protocol_rules.specs.Words.{greatest_of, best_from}

abbrev pub or_zero : Option ℕ → ℕ
or_zero None = 0
or_zero (Some x) = x

pub greatest-cons : (o : Option ℕ) (xs : List ℕ) → greatest_of (cons_option o xs) ≡ max (or_zero o) (greatest_of xs)
greatest-cons None xs = omega arith
greatest-cons (Some x) xs = refl

-- one member more
pub greatest-push : {X : Type 0} (h : X → Option ℕ) (xs : List X) (x : X) →
    greatest_of (filter_map h (xs ++ x ∷ [])) ≡ max (greatest_of (filter_map h xs)) (or_zero (h x))
greatest-push h [] x = greatest-cons (h x) [] ∙ swap (or_zero (h x))
  where
    swap : (w : ℕ) → max w 0 ≡ max 0 w
    swap w = omega arith
greatest-push h (y ∷ ys) x =
    step _ _ (or_zero (h y)) _ (greatest_of (filter_map h ys)) (or_zero (h x))
    (greatest-cons (h y) (filter_map h (ys ++ x ∷ []))) (greatest-cons (h y) (filter_map h ys))
    (greatest-push h ys x)
  where
    step : (a b y p t w : ℕ) → a ≡ max y p → b ≡ max y t → p ≡ max t w → a ≡ max b w
    step a b y p t w one other rest = omega arith

-- Where one function gives w of some members of which the other gives nothing, and the same of all else, the greatest
-- with w is the same.
pub greatest-more : {X : Type 0} (h k : X → Option ℕ) (w : ℕ) →
    ((x : X) → (k x ≡ h x) ⊎ ((h x ≡ None) × (k x ≡ Some w))) → (xs : List X)
    → max (greatest_of (filter_map k xs)) w ≡ max (greatest_of (filter_map h xs)) w
greatest-more h k w more [] = refl
greatest-more {X} h k w more (x ∷ xs) =
    step _ _ (or_zero (h x)) (or_zero (k x)) (greatest_of (filter_map h xs)) (greatest_of (filter_map k xs))
    (greatest-cons (h x) (filter_map h xs)) (greatest-cons (k x) (filter_map k xs)) (by (more x))
    (greatest-more h k w more xs)
  where
    by : (k x ≡ h x) ⊎ ((h x ≡ None) × (k x ≡ Some w)) → (or_zero (k x) ≡ or_zero (h x))
        ⊎ ((or_zero (h x) ≡ 0) × (or_zero (k x) ≡ w))
    by (inl e) = inl (ap or_zero e)
    by (inr e) = inr (ap or_zero e.0, ap or_zero e.1)

    step : (a b y z p t : ℕ) → a ≡ max y p → b ≡ max z t → (z ≡ y) ⊎ ((y ≡ 0) × (z ≡ w)) →
        max t w ≡ max p w → max b w ≡ max a w
    step a b y z p t one other (inl e) rest = omega arith
    step a b y z p t one other (inr e) rest =
        let none : y ≡ 0 = e.0 in
        let some : z ≡ w = e.1 in
        omega arith

-- the greatest is no less than what a function gives of a member
pub greatest-covers : {X : Type 0} (h : X → Option ℕ) (test : X → Bool) (v : ℕ) →
    ((x : X) → test x ≡ true → h x ≡ Some v) → (xs : List X) → list_any test xs ≡ true →
    v ≤ greatest_of (filter_map h xs)
greatest-covers h test v given [] any = absurd (let e : false ≡ true = any in cc)
greatest-covers {X} h test v given (x ∷ xs) any = by (test x) refl any (greatest-covers h test v given xs)
  where
    by : (b : Bool) → test x ≡ b → (b || list_any test xs) ≡ true →
        (list_any test xs ≡ true → v ≤ greatest_of (filter_map h xs)) → v ≤ greatest_of (filter_map h (x ∷ xs))
    by true e found later =
        let first : or_zero (h x) ≡ v = ap or_zero (given x e) in
        let all : greatest_of (cons_option (h x) (filter_map h xs)) ≡ max (or_zero (h x))
        (greatest_of (filter_map h xs)) = greatest-cons (h x) (filter_map h xs) in
        omega arith
    by false e found later =
        let rest : v ≤ greatest_of (filter_map h xs) = later found in
        let all : greatest_of (cons_option (h x) (filter_map h xs)) ≡ max (or_zero (h x))
        (greatest_of (filter_map h xs)) = greatest-cons (h x) (filter_map h xs) in
        omega arith

-- two functions that give the same
pub greatest-same : {X : Type 0} (h k : X → Option ℕ) → ((x : X) → k x ≡ h x) → (xs : List X) →
    greatest_of (filter_map k xs) ≡ greatest_of (filter_map h xs)
greatest-same h k same xs = λ i. greatest_of (filter_map (λ x. same x i) xs)

-- the greatest of two lists
pub greatest_of-append : (xs ys : List ℕ) → greatest_of (xs ++ ys) ≡ max (greatest_of xs) (greatest_of ys)
greatest_of-append [] ys = omega arith
greatest_of-append (x ∷ xs) ys = let rest : greatest_of (xs ++ ys) ≡ max (greatest_of xs) (greatest_of ys) =
    greatest_of-append xs ys in omega arith

pub greatest_of-push : (xs : List ℕ) (x : ℕ) → greatest_of (xs ++ x ∷ []) ≡ max (greatest_of xs) x
greatest_of-push [] x = let e : max x 0 ≡ max 0 x = omega arith in e
greatest_of-push (y ∷ xs) x =
    let assoc : max y (max (greatest_of xs) x) ≡ max (max y (greatest_of xs)) x = omega arith in
    ap (max y) (greatest_of-push xs x) ∙ assoc

-- one value more beats the best before, or doesn't
pub best_from-push : {X : Type 0} (beats : X → X → Bool) (best : X) (xs : List X) (x : X) →
    best_from beats best (xs ++ x ∷ []) ≡ (if beats x (best_from beats best xs) then x else best_from beats best xs)
best_from-push beats best [] x = refl
best_from-push beats best (y ∷ ys) x = best_from-push beats (if beats y best then y else best) ys x
