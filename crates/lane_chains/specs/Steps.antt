-- The one block that a step of a chain hashes (RFC 8554, section 4.3): the key's identifier, its leaf,
-- the chain's number, the step's and the value, 55 bytes in all, and the padding (FIPS 180-4, 5.1.1).
use Rattle.std.specs.Prelude.{ℕ, List, [], ◌∷◌, ◌++◌, slice_index}
use Rattle.std.specs.Int.{w16, w32, from_be_bytes, to_be_bytes}
use Rattle.sha2.specs.Sha256.{digest_bytes}

-- what a step hashes. The identifier and the value are given by their words
abbrev pub step_text : List ℕ → ℕ → ℕ → ℕ → List ℕ → List ℕ
step_text id q c s h = digest_bytes id 4 ++ (to_be_bytes w32 q ++ (to_be_bytes w16 c ++ (s ∷ digest_bytes h 8)))

-- the word of the four bytes of x
unfoldable pub same_word : ℕ → ℕ
same_word x = from_be_bytes w32 (to_be_bytes w32 x)

-- two bytes of a chain's number, one of a step's, and the high byte of a
unfoldable pub head_word : ℕ → ℕ → ℕ → ℕ
head_word c s a = from_be_bytes w32
    (slice_index (to_be_bytes w16 c) 0 ∷ slice_index (to_be_bytes w16 c) 1 ∷ s ∷ slice_index (to_be_bytes w32 a) 0 ∷ [])

-- the low three bytes of a, and then the high byte of b
unfoldable pub joined_word : ℕ → ℕ → ℕ
joined_word a b = from_be_bytes w32
    (slice_index (to_be_bytes w32 a) 1 ∷ slice_index (to_be_bytes w32 a) 2 ∷ slice_index (to_be_bytes w32 a) 3
    ∷ slice_index (to_be_bytes w32 b) 0 ∷ [])

-- the low three bytes of a, and the first of the padding
unfoldable pub last_word : ℕ → ℕ
last_word a = from_be_bytes w32
    (slice_index (to_be_bytes w32 a) 1 ∷ slice_index (to_be_bytes w32 a) 2
    ∷ slice_index (to_be_bytes w32 a) 3 ∷ 0x80 ∷ [])

-- the words that all steps of a key's chains begin with
abbrev pub key_words : List ℕ → ℕ → List ℕ
key_words id q =
    same_word (slice_index id 0) ∷ same_word (slice_index id 1) ∷ same_word (slice_index id 2)
    ∷ same_word (slice_index id 3) ∷ same_word q ∷ []

-- all sixteen words of the block
abbrev pub block_words : List ℕ → ℕ → ℕ → ℕ → List ℕ → List ℕ
block_words id q c s h =
    key_words id q
    ++ (head_word c s (slice_index h 0) ∷ joined_word (slice_index h 0) (slice_index h 1)
    ∷ joined_word (slice_index h 1) (slice_index h 2) ∷ joined_word (slice_index h 2) (slice_index h 3)
    ∷ joined_word (slice_index h 3) (slice_index h 4) ∷ joined_word (slice_index h 4) (slice_index h 5)
    ∷ joined_word (slice_index h 5) (slice_index h 6) ∷ joined_word (slice_index h 6) (slice_index h 7)
    ∷ last_word (slice_index h 7) ∷ 0 ∷ 440 ∷ [])
