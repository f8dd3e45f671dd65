-- Chains and joined pieces that grow by one.
use Rattle.std.proofs.Common.{◌≡◌, ◌≤◌, ◌<◌, ◌+◌, ◌-◌, ℕ, zero, suc, List, ◌++◌, refl, ap, ◌∙◌, arith}
use Rattle.wire_parts.specs.Fields.{u8_bytes}
use Rattle.lane_chains.specs.Hash.{hash_under}
use Rattle.lane_chains.specs.Chains.{joined, chain}

-- pieces that are equal are equal when joined
pub joined-cong : (f g : ℕ → List ℕ) (n : ℕ) → ((i : ℕ) → i < n → f i ≡ g i) → joined f n ≡ joined g n
joined-cong f g zero h = refl
joined-cong f g (suc n) h =
    let before = joined-cong f g n (λ i lt. h i (omega arith)) in
    ap (λ x. x ++ f n) before ∙ ap (λ x. joined g n ++ x) (h n (omega arith))

-- one step more of a chain
pub chain-more : (id : List ℕ) (q i from j : ℕ) (start : List ℕ) → from ≤ j
    → chain id q i from (j + 1 - from) start ≡ hash_under id q i (u8_bytes j ++ chain id q i from (j - from) start)
chain-more id q i from j start h =
    let one : j + 1 - from ≡ suc (j - from) = omega arith in
    let same : from + (j - from) ≡ j = omega arith in
    rw one (ap (λ k. hash_under id q i (u8_bytes k ++ chain id q i from (j - from) start)) same)
