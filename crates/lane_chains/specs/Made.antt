-- One-time keys that are made from a seed (RFC 8554, section 4.3 and appendix A).
use Rattle.std.specs.Prelude.{ℕ, ◌*◌, List, [], ◌∷◌, ◌++◌, replicate, slice_index}
use Rattle.std.specs.Int.{w32, w64, from_be_bytes, to_be_bytes}
use Rattle.wire_parts.specs.Fields.{u16_bytes, u32_bytes}
use Rattle.lane_chains.specs.Hash.{hash_under}
use Rattle.lane_chains.specs.Chains.{joined, chain}

-- the end of chain i: step 255 makes its start of the seed, and `top` steps from 0 on follow
abbrev pub made_end : List ℕ → ℕ → ℕ → List ℕ → ℕ → List ℕ
made_end id q top seed i = chain id q i 0 top (chain id q i 255 1 seed)

-- the hash of the ends of `count` chains, one behind the other
abbrev pub made_key : List ℕ → ℕ → ℕ → ℕ → List ℕ → ℕ → List ℕ
made_key id q tag top seed count = hash_under id q tag (joined (made_end id q top seed) count)

-- what that hash begins with, the last 22 of 32 bytes
abbrev pub head : List ℕ → ℕ → ℕ → List ℕ
head id q tag = replicate 10 0 ++ (id ++ (u32_bytes q ++ u16_bytes tag))

-- the padding of a message of so many bytes, of which 54 are in its last block (FIPS 180-4, 5.1.1), the first 10 of 32 bytes
abbrev pub ending : ℕ → List ℕ
ending len = 0x80 ∷ 0 ∷ (to_be_bytes w64 (len * 8) ++ replicate 22 0)

-- the low two bytes of a, and then the high two of b
unfoldable pub halves_joined : ℕ → ℕ → ℕ
halves_joined a b = from_be_bytes w32
    (slice_index (to_be_bytes w32 a) 2 ∷ slice_index (to_be_bytes w32 a) 3
    ∷ slice_index (to_be_bytes w32 b) 0 ∷ slice_index (to_be_bytes w32 b) 1 ∷ [])

-- the words of the block of the last 22 bytes of a value, a whole value, and the first 10 bytes of a third, all given by their words
abbrev pub pair_words : List ℕ → List ℕ → List ℕ → List ℕ
pair_words p a b =
    halves_joined (slice_index p 2) (slice_index p 3) ∷ halves_joined (slice_index p 3) (slice_index p 4)
    ∷ halves_joined (slice_index p 4) (slice_index p 5) ∷ halves_joined (slice_index p 5) (slice_index p 6)
    ∷ halves_joined (slice_index p 6) (slice_index p 7) ∷ halves_joined (slice_index p 7) (slice_index a 0)
    ∷ halves_joined (slice_index a 0) (slice_index a 1) ∷ halves_joined (slice_index a 1) (slice_index a 2)
    ∷ halves_joined (slice_index a 2) (slice_index a 3) ∷ halves_joined (slice_index a 3) (slice_index a 4)
    ∷ halves_joined (slice_index a 4) (slice_index a 5) ∷ halves_joined (slice_index a 5) (slice_index a 6)
    ∷ halves_joined (slice_index a 6) (slice_index a 7) ∷ halves_joined (slice_index a 7) (slice_index b 0)
    ∷ halves_joined (slice_index b 0) (slice_index b 1) ∷ halves_joined (slice_index b 1) (slice_index b 2) ∷ []
