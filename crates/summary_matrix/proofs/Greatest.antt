-- The greatest of some numbers that q of them reach, number by number.
use Rattle.std.proofs.Common.{◌≡◌, ℕ, ◌+◌, ◌<◌, ◌≤◌, Bool, true, false, cond, List, [], ◌∷◌, nat_le, filter, take}
use Rattle.std.proofs.Common.{length, get_or, max, refl, sym, ◌∙◌, ap, arith}
use Rattle.std.proofs.lemmas.List.Elements.{filter_more}
use Rattle.protocol_rules.specs.Words.{greatest_of}
use Rattle.protocol_rules.specs.Group.{Group}
use Rattle.protocol_rules.specs.Matrix.{column, eligible}
use Rattle.protocol_rules.proofs.Greatest.{greatest_of-append}

-- q of the numbers reach x
abbrev pub reaches : ℕ → List ℕ → ℕ → Bool
reaches q numbers x = nat_le q (length (filter (λ y. nat_le x y) numbers))

-- the greatest of some numbers that q of all numbers reach
abbrev pub reached : ℕ → List ℕ → List ℕ → ℕ
reached q numbers some = greatest_of (filter (reaches q numbers) some)

pub eligible-is : (g : Group) (rows : List (List ℕ)) (j : ℕ) →
    reached g.q (column rows j) (column rows j) ≡ eligible g rows j
unfolding eligible
eligible-is g rows j = refl

-- a number that q reach, and else 0
abbrev reaching : ℕ → List ℕ → ℕ → ℕ
reaching q numbers i = cond (reaches q numbers (get_or numbers i 0)) (get_or numbers i 0) 0

-- one number more
reached-more : (q : ℕ) (numbers : List ℕ) (i : ℕ) → i < length numbers
    → reached q numbers (take (i + 1) numbers) ≡ max (reached q numbers (take i numbers))
    (reaching q numbers i)
reached-more q numbers i within =
    ap greatest_of (filter_more (reaches q numbers) numbers i 0 within)
    ∙ greatest_of-append (filter (reaches q numbers) (take i numbers))
    (cond (reaches q numbers (get_or numbers i 0)) (get_or numbers i 0 ∷ []) [])
    ∙ ap (max (reached q numbers (take i numbers))) (by_test (reaches q numbers (get_or numbers i 0)))
  where
    by_test : (b : Bool) → greatest_of (cond b (get_or numbers i 0 ∷ []) []) ≡ cond b (get_or numbers i 0) 0
    by_test true = omega arith
    by_test false = refl

-- a greater number that q reach takes over; one that isn't greater, or that fewer reach, doesn't
pub reached-taken : (q : ℕ) (numbers : List ℕ) (i greatest x : ℕ) → i < length numbers → x ≡ get_or numbers i 0 →
    greatest ≡ reached q numbers (take i numbers) → greatest < x → reaches q numbers x ≡ true
    → x ≡ reached q numbers (take (i + 1) numbers)
reached-taken q numbers i greatest x within is was more enough =
    let here : reaching q numbers i ≡ x =
    ap (λ y. cond (reaches q numbers y) y 0) (sym is) ∙ ap (λ b. cond b x 0) enough in
    let one : reached q numbers (take (i + 1) numbers) ≡ max (reached q numbers (take i numbers))
    (reaching q numbers i) = reached-more q numbers i within in
    omega arith

pub reached-low : (q : ℕ) (numbers : List ℕ) (i greatest x : ℕ) → i < length numbers → x ≡ get_or numbers i 0 →
    greatest ≡ reached q numbers (take i numbers) → x ≤ greatest
    → greatest ≡ reached q numbers (take (i + 1) numbers)
reached-low q numbers i greatest x within is was low =
    let here : reaching q numbers i ≤ x =
    by_test (reaches q numbers (get_or numbers i 0)) in
    let one : reached q numbers (take (i + 1) numbers) ≡ max (reached q numbers (take i numbers))
    (reaching q numbers i) = reached-more q numbers i within in
    omega arith
  where
    by_test : (b : Bool) → cond b (get_or numbers i 0) 0 ≤ x
    by_test true = omega arith
    by_test false = omega arith

pub reached-few : (q : ℕ) (numbers : List ℕ) (i greatest x : ℕ) → i < length numbers → x ≡ get_or numbers i 0 →
    greatest ≡ reached q numbers (take i numbers) → reaches q numbers x ≡ false
    → greatest ≡ reached q numbers (take (i + 1) numbers)
reached-few q numbers i greatest x within is was few =
    let here : reaching q numbers i ≡ 0 =
    ap (λ y. cond (reaches q numbers y) y 0) (sym is) ∙ ap (λ b. cond b x 0) few in
    let one : reached q numbers (take (i + 1) numbers) ≡ max (reached q numbers (take i numbers))
    (reaching q numbers i) = reached-more q numbers i within in
    omega arith
