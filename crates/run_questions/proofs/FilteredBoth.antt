-- Filters, by membership.
use Rattle.std.proofs.Common.{◌≡◌, suc, ◌≤◌, Bool, true, false, cond, ◌&&◌, List, [], ◌∷◌, filter, length, map, refl}
use Rattle.std.proofs.Common.{ap, arith}
use Rattle.std.proofs.lemmas.Bool.{false≢true}
use Rattle.plain_lists.specs.Lists.{IsIn, here, there}

-- those that pass one test and another
pub filter_both : {X : Type 0} (p q : X → Bool) (xs : List X) → filter (λ x. p x && q x) xs ≡ filter q (filter p xs)
filter_both p q [] = refl
filter_both {X} p q (x ∷ xs) = by (p x) (filter_both p q xs)
  where
    by : (a : Bool) → filter (λ y. p y && q y) xs ≡ filter q (filter p xs)
        → cond (a && q x) (x ∷ filter (λ y. p y && q y) xs) (filter (λ y. p y && q y) xs) ≡ filter q
        (cond a (x ∷ filter p xs) (filter p xs))
    by true rest = ap (λ (ys : List X). cond (q x) (x ∷ ys) ys) rest
    by false rest = rest

-- where what passes one test passes the other, the one leaves no more
pub filter_fewer : {X : Type 0} (p q : X → Bool) (xs : List X) → ((x : X) → IsIn x xs → p x ≡ true → q x ≡ true) →
    length (filter p xs) ≤ length (filter q xs)
filter_fewer p q [] h = omega arith
filter_fewer {X} p q (x ∷ xs) h = by (p x) (q x) (h x (here xs)) (filter_fewer p q xs (λ y k. h y (there x xs k)))
  where
    by : (a b : Bool) → (a ≡ true → b ≡ true) → length (filter p xs) ≤ length (filter q xs)
        → length (cond a (x ∷ filter p xs) (filter p xs)) ≤ length (cond b (x ∷ filter q xs) (filter q xs))
    by true true g less = omega arith
    by true false g less = absurd (false≢true (g refl))
    by false true g less = omega arith
    by false false g less = omega arith

-- a filter of what a function gives has as many as a filter by what it gives
pub length-filter_map : {X Y : Type 0} (f : X → Y) (p : Y → Bool) (xs : List X) →
    length (filter p (map f xs)) ≡ length (filter (λ x. p (f x)) xs)
length-filter_map f p [] = refl
length-filter_map {X} {Y} f p (x ∷ xs) = by (p (f x)) (length-filter_map f p xs)
  where
    by : (a : Bool) → length (filter p (map f xs)) ≡ length (filter (λ y. p (f y)) xs)
        → length (cond a (f x ∷ filter p (map f xs)) (filter p (map f xs))) ≡ length
        (cond a (x ∷ filter (λ y. p (f y)) xs) (filter (λ y. p (f y)) xs))
    by true rest = ap (λ n. suc n) rest
    by false rest = rest
