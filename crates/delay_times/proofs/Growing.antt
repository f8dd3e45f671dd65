-- Lists and numbers that a loop makes, one turn more.
use Rattle.std.proofs.Common.{◌≡◌, ℕ, ◌+◌, ◌<◌, Bool, true, false, cond, List, [], ◌∷◌, ◌++◌, Option, Less, Equal, Greater}
use Rattle.std.proofs.Common.{filter, take, length, get_or, is_lt, max, nat_cmp, nat_le, nat_lt, refl, sym, ◌∙◌, ap, arith}
use Rattle.std.specs.List.{filter_map, flat_map}
use Rattle.std.specs.Option.{option_to_list}
use Rattle.std.specs.Ordering.{ord_max}
use Rattle.std.proofs.lemmas.Bool.{ltb-true, ltb-false}
use Rattle.std.proofs.lemmas.List.{append-nil, append_assoc, take_more}
use Rattle.std.proofs.lemmas.List.Concat.{flat_map-append}
use Rattle.std.proofs.lemmas.List.Elements.{filter-append}
use Rattle.quorum_sets.specs.Masters.{numbers_below}
use Rattle.quorum_sets.proofs.Numbered.{below_none_at, below_one_more, filter_map_more, filter_map_start}
use Rattle.protocol_rules.specs.Words.{greatest_of}
use Rattle.protocol_rules.proofs.Greatest.{greatest_of-push}

-- ---- Along a list.

-- the lists of one element more
pub listed_more : {X Y : Type 0} (f : X → List Y) (xs : List X) (i : ℕ) (x : X) (old new : List Y) → i < length xs →
    x ≡ get_or xs i x → old ≡ flat_map f (take i xs) → new ≡ old ++ f x
    → new ≡ flat_map f (take (i + 1) xs)
listed_more {X} {Y} f xs i x old new below is so_far put =
    put ∙ ap (λ (ys : List Y). ys ++ f x) so_far
    ∙ ap (λ (ys : List Y). flat_map f (take i xs) ++ ys) (sym (append-nil (f x)))
    ∙ sym (flat_map-append f (take i xs) (x ∷ []))
    ∙ ap (λ (y : X). flat_map f (take i xs ++ y ∷ [])) is ∙ ap (flat_map f) (sym (take_more xs i x below))

-- ---- The greatest of some numbers.

-- so many of the numbers reach this one
abbrev pub reaches : (count : ℕ) → List ℕ → ℕ → Bool
reaches count numbers x = nat_le count (length (filter (λ y. nat_le x y) numbers))

larger : (a b : ℕ) → ord_max nat_cmp a b ≡ max a b
larger a b = by (nat_lt b a) _ refl
  where
    by : (less same : Bool) → nat_lt b a ≡ less → cond (is_lt (cond less Less (cond same Equal Greater))) a b ≡ max a b
    by true same e = omega (arith, ltb-true b a e)
    by false true e = omega (arith, ltb-false b a e)
    by false false e = omega (arith, ltb-false b a e)

-- the greatest of those that pass, with one number more
pub greatest_more : (p : ℕ → Bool) (xs : List ℕ) (i d old found new : ℕ) → i < length xs →
    old ≡ greatest_of (filter p (take i xs)) → found ≡ cond (p (get_or xs i d)) (get_or xs i d) 0
    → new ≡ ord_max nat_cmp old found → new ≡ greatest_of (filter p (take (i + 1) xs))
greatest_more p xs i d old found new below so_far is put =
    put ∙ larger old found ∙ (λ j. max (so_far j) (is j))
    ∙ with_one (filter p (take i xs)) (get_or xs i d) (p (get_or xs i d))
    ∙ ap greatest_of (sym (filter-append p (take i xs) (get_or xs i d ∷ [])) ∙ ap (filter p) (sym (take_more xs i d below)))
  where
    with_one : (front : List ℕ) (x : ℕ) (b : Bool) → max (greatest_of front) (cond b x 0)
        ≡ greatest_of (front ++ cond b (x ∷ []) [])
    with_one front x true = sym (greatest_of-push front x)
    with_one front x false = omega arith ∙ ap greatest_of (sym (append-nil front))

-- ---- Along the numbers below a count.

pub below_start : {Y : Type 0} (f : ℕ → List Y) (base : List Y) → base ≡ base ++ flat_map f (numbers_below 0)
below_start {Y} f base =
    sym (append-nil base) ∙ ap (λ (ns : List ℕ). base ++ flat_map f ns) (sym below_none_at)

pub below_more : {Y : Type 0} (f : ℕ → List Y) (n : ℕ) (base old new : List Y) →
    old ≡ base ++ flat_map f (numbers_below n) → new ≡ old ++ f n → new ≡ base ++ flat_map f (numbers_below (n + 1))
below_more {Y} f n base old new so_far put =
    put ∙ ap (λ (ys : List Y). ys ++ f n) so_far ∙ append_assoc base (flat_map f (numbers_below n)) (f n)
    ∙ ap (λ (ys : List Y). base ++ (flat_map f (numbers_below n) ++ ys)) (sym (append-nil (f n)))
    ∙ ap (λ (ys : List Y). base ++ ys) (sym (flat_map-append f (numbers_below n) (n ∷ []))
    ∙ ap (flat_map f) (sym (below_one_more n)))

pub flat_start : {Y : Type 0} (f : ℕ → List Y) (ys : List Y) → ys ≡ [] → ys ≡ flat_map f (numbers_below 0)
flat_start f ys none = none ∙ ap (flat_map f) (sym below_none_at)

pub flat_more : {Y : Type 0} (f : ℕ → List Y) (n : ℕ) (old new : List Y) →
    old ≡ flat_map f (numbers_below n) → new ≡ old ++ f n → new ≡ flat_map f (numbers_below (n + 1))
flat_more f n old new so_far put = below_more f n [] old new so_far put

pub found_start : {Y : Type 0} (f : ℕ → Option Y) (ys : List Y) → ys ≡ [] → ys ≡ filter_map f (numbers_below 0)
found_start f ys none = none ∙ sym (filter_map_start f)

pub found_more : {Y : Type 0} (f : ℕ → Option Y) (n : ℕ) (found : Option Y) (old new : List Y) →
    old ≡ filter_map f (numbers_below n) → found ≡ f n → new ≡ old ++ option_to_list found
    → new ≡ filter_map f (numbers_below (n + 1))
found_more {Y} f n found old new so_far same put =
    put ∙ (λ i. so_far i ++ option_to_list (same i)) ∙ sym (filter_map_more f n)
