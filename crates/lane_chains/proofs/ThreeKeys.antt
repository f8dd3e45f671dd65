-- What belongs to each of three keys, and the values of the chains of all three in one list.
use Rattle.std.proofs.Common.{◌≡◌, ℕ, zero, suc, ◌<◌, ◌≤◌, ◌+◌, ◌*◌, List, [], ◌∷◌, ◌++◌, length, drop, slice_index, arith, refl, sym, ap, ◌∙◌}
use Rattle.std.proofs.Common.{length-append, length-drop, false}
use Rattle.std.specs.Prelude.{cond, ltb, replicate}
use Rattle.std.proofs.lemmas.Bool.{le-ltb}
use Rattle.std.proofs.lemmas.List.{length-take-le}
use Rattle.sha2.specs.Sha256.{digest_bytes}
use Rattle.wire_parts.specs.Fields.{u16_bytes, u32_bytes}
use Rattle.lane_chains.specs.declared.three.KeyAt.{KeyAt}
use Rattle.lane_chains.specs.Chains.{joined, value_at}
use Rattle.lane_chains.specs.Made.{head}
use Rattle.lane_chains.specs.Three.{of_three}
use Rattle.lane_chains.proofs.PairsOfValues.{length-digest}

-- what holds of each of three
pub below_three : (P : ℕ → Type 0) → P 0 → P 1 → P 2 → (k : ℕ) → k < 3 → P k
below_three P a b c zero h = a
below_three P a b c (suc zero) h = b
below_three P a b c (suc (suc zero)) h = c
below_three P a b c (suc (suc (suc k))) h = absurd (omega arith)

-- two choices, one in the other, are a choice of three
pub choice_is : (a b c k : ℕ) → cond (ltb k 1) a (cond (ltb k 2) b c) ≡ of_three a b c k
choice_is a b c zero = refl
choice_is a b c (suc zero) = refl
choice_is a b c (suc (suc k)) =
    let first : ltb (suc (suc k)) 1 ≡ false = le-ltb (suc (suc k)) 1 (omega arith) in
    let second : ltb (suc (suc k)) 2 ≡ false = le-ltb (suc (suc k)) 2 (omega arith) in
    rw (first, second) refl

-- from the third on it is the third
pub third_is : (a b c : KeyAt) (k : ℕ) → 2 ≤ k → c ≡ of_three a b c k
third_is a b c zero h = absurd (omega arith)
third_is a b c (suc zero) h = absurd (omega arith)
third_is a b c (suc (suc k)) h = refl

pub leaf_is : (a b c : KeyAt) (k : ℕ) → of_three a.q b.q c.q k ≡ (of_three a b c k).q
leaf_is a b c zero = refl
leaf_is a b c (suc zero) = refl
leaf_is a b c (suc (suc k)) = refl

-- words that are chosen one by one are those of the chosen identifier
pub id_is : (a b c : KeyAt) (x y z : List ℕ) → digest_bytes x 4 ≡ a.id → digest_bytes y 4 ≡ b.id → digest_bytes z 4 ≡ c.id
    → (k : ℕ) → digest_bytes (of_three (slice_index x 0) (slice_index y 0) (slice_index z 0) k
    ∷ of_three (slice_index x 1) (slice_index y 1) (slice_index z 1) k
    ∷ of_three (slice_index x 2) (slice_index y 2) (slice_index z 2) k
    ∷ of_three (slice_index x 3) (slice_index y 3) (slice_index z 3) k ∷ []) 4 ≡ (of_three a b c k).id
unfolding digest_bytes
id_is a b c x y z ex ey ez zero = ex
id_is a b c x y z ex ey ez (suc zero) = ey
id_is a b c x y z ex ey ez (suc (suc k)) = ez

-- the bytes of a head that a lane has, but the zeros
pub length-head : (v id : List ℕ) (q tag : ℕ) → digest_bytes v 8 ≡ head id q tag
    → length (id ++ (u32_bytes q ++ u16_bytes tag)) ≡ 22
length-head v id q tag e =
    let x : List ℕ = id ++ (u32_bytes q ++ u16_bytes tag) in
    let ten : length (replicate 10 0 ++ x) ≡ 10 + length x = length-append (replicate 10 0) x in
    let whole : 32 ≡ length (replicate 10 0 ++ x) = sym (length-digest v) ∙ ap length e in
    omega (arith, whole, ten)

-- a value that stands whole in a list
pub length-value : (values : List ℕ) (n : ℕ) → 32 * n + 32 ≤ length values → length (value_at values n) ≡ 32
length-value values n room = length-take-le 32 (drop (32 * n) values) (omega (arith, length-drop (32 * n) values))

pub length-joined_to : (f : ℕ → List ℕ) (n : ℕ) → ((i : ℕ) → i < n → length (f i) ≡ 32) → length (joined f n) ≡ 32 * n
length-joined_to f zero each = refl
length-joined_to f (suc n) each =
    let before = length-joined_to f n (λ i lt. each i (omega arith)) in
    omega (arith, before, each n (omega arith), length-append (joined f n) (f n))
