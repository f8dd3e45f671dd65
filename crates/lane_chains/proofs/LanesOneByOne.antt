-- Lanes one by one, and the words of one block.
use Rattle.std.proofs.Common.{◌≡◌, ℕ, zero, suc, ◌<◌, List, [], ◌∷◌, length, slice_index, slice_set, arith}
use Rattle.std.proofs.Common.{refl, ap}
use Rattle.std.specs.Prelude.{slice_index_or}
use Rattle.std.specs.Simd.Lanes.{zip2}
use Rattle.lane_chains.specs.Lanes.{column}

-- what holds of each of four, five and eight
pub below_four : (P : ℕ → Type 0) → P 0 → P 1 → P 2 → P 3 → (k : ℕ) → k < 4 → P k
below_four P a b c d zero h = a
below_four P a b c d (suc zero) h = b
below_four P a b c d (suc (suc zero)) h = c
below_four P a b c d (suc (suc (suc zero))) h = d
below_four P a b c d (suc (suc (suc (suc k)))) h = absurd (omega arith)

pub below_five : (P : ℕ → Type 0) → P 0 → P 1 → P 2 → P 3 → P 4 → (k : ℕ) → k < 5 → P k
below_five P a b c d e zero h = a
below_five P a b c d e (suc k) h = below_four (λ n. P (suc n)) b c d e k (omega arith)

pub below_eight : (P : ℕ → Type 0) → P 0 → P 1 → P 2 → P 3 → P 4 → P 5 → P 6 → P 7 → (k : ℕ) → k < 8 → P k
below_eight P a b c d e f g i zero h = a
below_eight P a b c d e f g i (suc zero) h = b
below_eight P a b c d e f g i (suc (suc zero)) h = c
below_eight P a b c d e f g i (suc (suc (suc zero))) h = d
below_eight P a b c d e f g i (suc (suc (suc (suc k)))) h =
    below_four (λ n. P (suc (suc (suc (suc n))))) e f g i k (omega arith)

-- what holds of each list of eight
eight_lanes : (P : List ℕ → Type 0) → ((a b c d e f g h : ℕ) → P (a ∷ b ∷ c ∷ d ∷ e ∷ f ∷ g ∷ h ∷ []))
    → (x : List ℕ) → length x ≡ 8 → P x
eight_lanes P make [] len = absurd (omega arith)
eight_lanes P make (a ∷ []) len = absurd (omega arith)
eight_lanes P make (a ∷ b ∷ []) len = absurd (omega arith)
eight_lanes P make (a ∷ b ∷ c ∷ []) len = absurd (omega arith)
eight_lanes P make (a ∷ b ∷ c ∷ d ∷ []) len = absurd (omega arith)
eight_lanes P make (a ∷ b ∷ c ∷ d ∷ e ∷ []) len = absurd (omega arith)
eight_lanes P make (a ∷ b ∷ c ∷ d ∷ e ∷ f ∷ []) len = absurd (omega arith)
eight_lanes P make (a ∷ b ∷ c ∷ d ∷ e ∷ f ∷ g ∷ []) len = absurd (omega arith)
eight_lanes P make (a ∷ b ∷ c ∷ d ∷ e ∷ f ∷ g ∷ h ∷ []) len = make a b c d e f g h
eight_lanes P make (a ∷ b ∷ c ∷ d ∷ e ∷ f ∷ g ∷ h ∷ i ∷ rest) len = absurd (omega arith)

-- each lane with one number
pub lanes_with : (f : ℕ → ℕ → ℕ) (x : List ℕ) (k : ℕ) → length x ≡ 8 → (j : ℕ) → j < 8
    → slice_index (zip2 f x (k ∷ k ∷ k ∷ k ∷ k ∷ k ∷ k ∷ k ∷ [])) j ≡ f (slice_index x j) k
lanes_with f x k =
    eight_lanes (λ y. (j : ℕ) → j < 8 → slice_index (zip2 f y (k ∷ k ∷ k ∷ k ∷ k ∷ k ∷ k ∷ k ∷ []))
    j ≡ f (slice_index y j) k)
    (λ a b c d e g h i. below_eight _ refl refl refl refl refl refl refl refl) x

-- each lane with one number and with another
pub lanes_with_two : (h f g : ℕ → ℕ → ℕ) (x : List ℕ) (k m : ℕ) → length x ≡ 8 → (j : ℕ) → j < 8
    → slice_index (zip2 h (zip2 f x (k ∷ k ∷ k ∷ k ∷ k ∷ k ∷ k ∷ k ∷ []))
    (zip2 g x (m ∷ m ∷ m ∷ m ∷ m ∷ m ∷ m ∷ m ∷ []))) j
    ≡ h (f (slice_index x j) k) (g (slice_index x j) m)
lanes_with_two h f g x k m =
    eight_lanes (λ y. (j : ℕ) → j < 8
    → slice_index (zip2 h (zip2 f y (k ∷ k ∷ k ∷ k ∷ k ∷ k ∷ k ∷ k ∷ []))
    (zip2 g y (m ∷ m ∷ m ∷ m ∷ m ∷ m ∷ m ∷ m ∷ []))) j
    ≡ h (f (slice_index y j) k) (g (slice_index y j) m))
    (λ a b c d e p q i. below_eight _ refl refl refl refl refl refl refl refl) x

-- a word of a block
pub column_at : (w : List (List ℕ)) (k j : ℕ) → slice_index (slice_index_or w k []) j ≡ slice_index (column j w) k
column_at [] k j = refl
column_at (v ∷ w) zero j = refl
column_at (v ∷ w) (suc k) j = column_at w k j

pub column-set : (w : List (List ℕ)) (k j : ℕ) (x : List ℕ) →
    column j (slice_set w k x) ≡ slice_set (column j w) k (slice_index x j)
column-set [] k j x = refl
column-set (v ∷ w) zero j x = refl
column-set (v ∷ w) (suc k) j x = ap (λ r. slice_index v j ∷ r) (column-set w k j x)
