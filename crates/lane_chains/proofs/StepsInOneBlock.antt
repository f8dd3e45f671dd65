-- The one block of a chain's step.
use Rattle.std.proofs.Common.{◌≡◌, ℕ, ◌<◌, ◌+◌, ◌*◌, ◌/◌, ◌%◌, ◌^◌, List, ◌∷◌, ◌++◌, length, slice_index, arith, refl}
use Rattle.std.proofs.Common.{sym, ap, subst, ◌∙◌, w32, length-append, Fits}
use Rattle.std.proofs.lemmas.List.{take_all}
use Rattle.std.proofs.lemmas.Simd.{Each1-get_or}
use Rattle.std.proofs.lemmas.Nat.{from_be_bytes-to_be_bytes_4}
use Rattle.std.specs.Simd.Lanes.{Each1}
use Rattle.std.specs.Int.{w64, to_be_bytes}
use Rattle.sha2.specs.Sha256.{add32, compress, digest_bytes, hash_after, initial_hash_256, schedule, sha256, word_at}
use Rattle.sha2.proofs.Schedule256.{slice_index-schedule_first}
use Rattle.lane_chains.specs.Steps.{same_word, joined_word, head_word, last_word, key_words, block_words, step_text}
use Rattle.lane_chains.proofs.LanesOneByOne.{below_four, below_five}

-- the padding of a message of 55 bytes
abbrev pub tail : List ℕ
tail = 0x80 ∷ to_be_bytes w64 440

-- a message of 55 bytes is one block
one_block : (m : List ℕ) → length m ≡ 55 → sha256 m ≡ digest_bytes (compress initial_hash_256 (m ++ tail)) 8
unfolding sha256 hash_after
one_block m len =
    let whole : length (m ++ tail) ≡ 64 = length-append m tail ∙ ap (λ n. n + 9) len in
    rw (len, whole, take_all 64 (m ++ tail) (omega arith)) refl

pub word_fits : (x : List ℕ) (j : ℕ) → length x ≡ 8 → Each1 (Fits w32) x → j < 8 → slice_index x j < 2 ^ 32
word_fits x j len fits lt = (Each1-get_or (Fits w32) x j 0 (omega arith) fits).fits

pub same_word_is : (x : ℕ) → x < 2 ^ 32 → x ≡ same_word x
unfolding same_word
same_word_is x h = sym (from_be_bytes-to_be_bytes_4 x h)

pub joined_word_is : (a b : ℕ) → a < 2 ^ 32 → b < 2 ^ 32 → add32 (a * 2 ^ 8 % 2 ^ 32) (b / 2 ^ 24) ≡ joined_word a b
unfolding joined_word
joined_word_is a b ha hb = omega arith

pub head_word_is : (c s a : ℕ) → c < 2 ^ 16 → s < 2 ^ 8 → a < 2 ^ 32
    → add32 (add32 (c * 2 ^ 16 % 2 ^ 32) (s * 2 ^ 8 % 2 ^ 32)) (a / 2 ^ 24) ≡ head_word c s a
unfolding head_word
head_word_is c s a hc hs ha = omega arith

pub last_word_is : (a : ℕ) → a < 2 ^ 32 → add32 (a * 2 ^ 8 % 2 ^ 32) 0x80 ≡ last_word a
unfolding last_word
last_word_is a ha = omega arith

-- what holds of each of the sixteen words
pub below_sixteen : (P : ℕ → Type 0) → P 0 → P 1 → P 2 → P 3 → P 4 → P 5 → P 6 → P 7
    → P 8 → P 9 → P 10 → P 11 → P 12 → P 13 → P 14 → P 15 → (k : ℕ) → k < 16 → P k
below_sixteen P a0 a1 a2 a3 b0 b1 b2 b3 c0 c1 c2 c3 d0 d1 d2 d3 k h =
    let place : 4 * (k / 4) + k % 4 ≡ k = omega arith in
    subst P place (below_four (λ row. (col : ℕ) → col < 4 → P (4 * row + col))
    (below_four _ a0 a1 a2 a3) (below_four _ b0 b1 b2 b3) (below_four _ c0 c1 c2 c3) (below_four _ d0 d1 d2 d3)
    (k / 4) (omega arith) (k % 4) (omega arith))

-- the words of the block are those of the text with its padding
pub block_is : (id : List ℕ) (q c s : ℕ) (h : List ℕ) (k : ℕ) → k < 16
    → slice_index (block_words id q c s h) k ≡ word_at (step_text id q c s h ++ tail) (4 * k)
unfolding digest_bytes same_word joined_word head_word last_word
block_is id q c s h =
    below_sixteen _ refl refl refl refl refl refl refl refl refl refl refl refl refl refl refl refl

-- a key's words are the first of each of its blocks
pub key_word_is : (id : List ℕ) (q c s : ℕ) (h : List ℕ) (k : ℕ) → k < 5
    → slice_index (key_words id q) k ≡ slice_index (schedule (step_text id q c s h ++ tail) 48) k
key_word_is id q c s h k lt =
    below_five (λ n. slice_index (key_words id q) n ≡ slice_index (block_words id q c s h) n)
    refl refl refl refl refl k lt
    ∙ block_is id q c s h k (omega arith)
    ∙ sym (slice_index-schedule_first (step_text id q c s h ++ tail) 48 k (omega arith))

length-text : (id : List ℕ) (q c s : ℕ) (h : List ℕ) → length (step_text id q c s h) ≡ 55
unfolding digest_bytes
length-text id q c s h = refl

-- the digest of a step's text is the hash value after its one block
pub step_is : (id : List ℕ) (q c s : ℕ) (h r : List ℕ) → r ≡ compress initial_hash_256 (step_text id q c s h ++ tail)
    → digest_bytes r 8 ≡ sha256 (step_text id q c s h)
step_is id q c s h r e = ap (λ x. digest_bytes x 8) e ∙ sym (one_block (step_text id q c s h) (length-text id q c s h))
