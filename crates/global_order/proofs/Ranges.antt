-- Ranges of numbers outside which nothing is due.
use Rattle.std.proofs.Common.{◌≡◌, ℕ, zero, suc, ◌+◌, ◌-◌, ◌<◌, ◌≤◌, List, [], ◌∷◌, ◌++◌, refl, sym, ◌∙◌, ap, arith}
use Rattle.std.specs.List.{flat_map}
use Rattle.std.proofs.lemmas.List.{append-nil}
use Rattle.std.proofs.lemmas.Grind.{flat_map-append}
use Rattle.protocol_rules.specs.Words.{numbers_from}
use Rattle.protocol_rules.proofs.Numbers.{numbers_from-suc, head}
pub use Rattle.protocol_rules.proofs.Numbers.{flat_map-none}

tail : {X : Type 0} (f : ℕ → List X) (start count most : ℕ) → most ≤ count →
    ((k : ℕ) → start + most ≤ k → k < start + count → f k ≡ []) →
    flat_map f (numbers_from start count) ≡ flat_map f (numbers_from start most)
unfolding numbers_from
tail f start zero zero fits none = refl
tail f start zero (suc most) fits none = absurd (omega arith)
tail f start (suc count) zero fits none =
    ap (λ xs. xs ++ flat_map f (numbers_from (suc start) count)) (none start (omega arith) (omega arith))
    ∙ tail f (suc start) count zero (omega arith) (λ k le less. none k (omega arith) (omega arith))
tail f start (suc count) (suc most) fits none =
    ap (λ rest. f start ++ rest)
    (tail f (suc start) count most (omega arith) (λ k le less. none k (omega arith) (omega arith)))

-- of the numbers from 1 to `count` those outside a range give nothing
pub narrow : {X : Type 0} (f : ℕ → List X) (count low high : ℕ) → 1 ≤ low → high ≤ count + 1 →
    ((k : ℕ) → 1 ≤ k → k ≤ count → k < low → f k ≡ []) → ((k : ℕ) → 1 ≤ k → k ≤ count → high ≤ k → f k ≡ []) →
    flat_map f (numbers_from 1 count) ≡ flat_map f (numbers_from low (high - low))
narrow {X} f count low high one high_fits before after = by (count + 1 - low) refl
  where
    by : (left : ℕ) → count + 1 - low ≡ left →
        flat_map f (numbers_from 1 count) ≡ flat_map f (numbers_from low (high - low))
    by zero e =
        let none : high - low ≡ 0 = omega arith in
        tail f 1 count 0 (omega arith) (λ k le less. before k (omega arith) (omega arith) (omega arith))
        ∙ flat_map-none f 1
        ∙ sym (ap (λ n. flat_map f (numbers_from low n)) none ∙ flat_map-none f low)
    by (suc left) e =
        let all : count ≡ (low - 1) + (count + 1 - low) = omega arith in
        let start : 1 + (low - 1) ≡ low = omega arith in
        ap (λ n. flat_map f (numbers_from 1 n)) all
        ∙ head f 1 (low - 1) (count + 1 - low) (λ k le lt. before k (omega arith) (omega arith) (omega arith))
        ∙ ap (λ s. flat_map f (numbers_from s (count + 1 - low))) start
        ∙ tail f low (count + 1 - low) (high - low) (omega arith)
        (λ k le less. after k (omega arith) (omega arith) (omega arith))

-- one number more
pub flat_map-more : {X : Type 0} (f : ℕ → List X) (low at : ℕ) → low ≤ at →
    flat_map f (numbers_from low (at + 1 - low)) ≡ flat_map f (numbers_from low (at - low)) ++ f at
flat_map-more f low at le =
    let one : at + 1 - low ≡ suc (at - low) = omega arith in
    let here : low + (at - low) ≡ at = omega arith in
    ap (λ n. flat_map f (numbers_from low n)) one ∙ ap (flat_map f) (numbers_from-suc low (at - low))
    ∙ flat_map-append f (numbers_from low (at - low)) ((low + (at - low)) ∷ [])
    ∙ ap (λ xs. flat_map f (numbers_from low (at - low)) ++ xs) (append-nil (f (low + (at - low))))
    ∙ ap (λ k. flat_map f (numbers_from low (at - low)) ++ f k) here
