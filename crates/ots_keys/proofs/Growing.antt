-- The digits of a hash, read one by one.
use Rattle.std.proofs.Common.{◌≡◌, ◌≢◌, ◌≤◌, ◌<◌, ◌+◌, ℕ, List, ◌++◌, length, slice_index, slice_set, sym, ap, ◌∙◌}
use Rattle.std.proofs.Common.{arith, below_more, get_or-set_same, get_or-set_other}
use Rattle.wire_parts.specs.Fields.{u16_bytes}
use Rattle.ots_keys.specs.declared.parameters.Ots.{Ots}
use Rattle.ots_keys.specs.Parameters.{width, top_digit}
use Rattle.ots_keys.specs.Digits.{coef, checksum, digit}

-- the digit that stands in a hash with its checksum
pub digit_is : (ots : Ots) (hash : List ℕ) (i : ℕ) (text : List ℕ) (d : ℕ) →
    text ≡ hash ++ u16_bytes (checksum ots hash)
    → d ≡ coef text i (width ots) → d ≡ digit ots hash i
unfolding digit
digit_is ots hash i text d e f = f ∙ ap (λ t. coef t i (width ots)) e

-- a digit as it stands in a list
abbrev pub IsDigitAt : Ots → List ℕ → List ℕ → ℕ → Type 0
IsDigitAt ots hash digits i = (slice_index digits i ≡ digit ots hash i) × (slice_index digits i ≤ top_digit ots)

-- one digit more is written
pub digits_more : (ots : Ots) (hash digits : List ℕ) (i at x : ℕ) → at ≡ i → length digits ≡ 265 → i < 265
    → x ≡ digit ots hash i → x ≤ top_digit ots → ((k : ℕ) → k < i → IsDigitAt ots hash digits k)
    → (k : ℕ) → k < i + 1 → IsDigitAt ots hash (slice_set digits at x) k
digits_more ots hash digits i at x here len room is_digit top before =
    let same : slice_index (slice_set digits at x) i ≡ x =
    ap (λ (n : ℕ). slice_index (slice_set digits at x) n) (sym here) ∙ get_or-set_same digits at x 0 (omega arith) in
    below_more (IsDigitAt ots hash (slice_set digits at x)) i
    (λ k lt.
    let ne : k ≢ at = omega arith in
    let other : slice_index (slice_set digits at x) k ≡ slice_index digits k = get_or-set_other digits at k x 0 ne in
    (other ∙ (before k lt).0, rw other (before k lt).1))
    (same ∙ is_digit, rw same top)
