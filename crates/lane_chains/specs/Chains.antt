-- The chains of RFC 8554, section 4, many at a time. A chain's value has 32 bytes, and the values of
-- chains 0 to n - 1 stand one behind the other.
use Rattle.std.specs.Prelude.{◌≡◌, ◌≤◌, ◌<◌, ℕ, zero, suc, ◌+◌, ◌-◌, ◌*◌, List, [], ◌++◌, length, take, drop}
use Rattle.std.specs.Prelude.{slice_index}
use Rattle.wire_parts.specs.Fields.{u8_bytes}
use Rattle.lane_chains.specs.Hash.{hash_under}

-- f 0 || .. || f (n - 1)
abbrev pub joined : (ℕ → List ℕ) → ℕ → List ℕ
joined f zero = []
joined f (suc n) = joined f n ++ f n

-- `start` after n steps of chain i, from step `from` on; step j makes
-- H(I || u32str(q) || u16str(i) || u8str(j) || tmp) of tmp (sections 4.3, 4.5 and 4.6)
abbrev pub chain : List ℕ → ℕ → ℕ → ℕ → ℕ → List ℕ → List ℕ
chain id q i from zero start = start
chain id q i from (suc n) start = hash_under id q i (u8_bytes (from + n) ++ chain id q i from n start)

-- value i of those that stand in these bytes
abbrev pub value_at : List ℕ → ℕ → List ℕ
value_at values i = take 32 (drop (32 * i) values)

-- chain i from value i of the starts, from step `from i` up to `to i`
abbrev pub end_of : List ℕ → ℕ → List ℕ → List ℕ → List ℕ → ℕ → List ℕ
end_of id q from to starts i =
    chain id q i (slice_index from i) (slice_index to i - slice_index from i) (value_at starts i)

-- the first and the last steps of some chains, at most 265, which are those of digits of one bit
-- (RFC 8554, section 4.1); no step's number is above 255
pub record AreSteps (from to : List ℕ) : Type 0 where
  pub some : 0 < length from
  pub few : length from ≤ 265
  pub same : length to ≡ length from
  pub order : (i : ℕ) → i < length from → slice_index from i ≤ slice_index to i
  pub top : (i : ℕ) → i < length from → slice_index to i ≤ 256
