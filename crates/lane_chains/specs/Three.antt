-- Three one-time keys at once, each with as many chains, which stand in one list: chain n of all is chain n / 3 of
-- key n % 3 (this project's own order).
use Rattle.std.specs.Prelude.{ℕ, zero, suc, ◌+◌, ◌-◌, ◌*◌, ◌/◌, ◌%◌, List, slice_index}
use Rattle.lane_chains.specs.declared.three.KeyAt.{KeyAt}
use Rattle.lane_chains.specs.Hash.{hash_under}
use Rattle.lane_chains.specs.Chains.{joined, chain, value_at}

-- what belongs to key k
abbrev pub of_three : {A : Type 0} → A → A → A → ℕ → A
of_three a b c zero = a
of_three a b c (suc zero) = b
of_three a b c (suc (suc k)) = c

-- chain n of all from value n of the starts, from step `from n` up to `to n`
abbrev pub end_of_three : KeyAt → KeyAt → KeyAt → List ℕ → List ℕ → List ℕ → ℕ → List ℕ
end_of_three a b c from to starts n =
    let key = of_three a b c (n % 3) in
    chain key.id key.q (n / 3) (slice_index from n) (slice_index to n - slice_index from n) (value_at starts n)

-- the hash of the ends of key k's chains, one behind the other
abbrev pub key_of_three : KeyAt → KeyAt → KeyAt → ℕ → ℕ → (ℕ → List ℕ) → ℕ → List ℕ
key_of_three a b c tag count ends k =
    let key = of_three a b c k in
    hash_under key.id key.q tag (joined (λ i. ends (3 * i + k)) count)
