-- Bytes as words of four, and lists of eight that are written one by one.
use Rattle.std.proofs.Common.{◌≡◌, ◌≢◌, ◌≤◌, ◌<◌, ◌+◌, ◌*◌, ℕ, zero, suc, List, [], ◌∷◌, ◌++◌, length, take}
use Rattle.std.proofs.Common.{drop, slice_index, slice_set, w32, refl, sym, ap, ◌∙◌, arith, below_more}
use Rattle.std.proofs.Common.{get_or-set_same, get_or-set_other}
use Rattle.std.proofs.lemmas.List.{drop-drop, get_or-drop, length-drop}
use Rattle.std.proofs.lemmas.Nat.{be_bytes_4}
use Rattle.std.proofs.Math.Seq.{take-add}
use Rattle.std.specs.Int.{to_be_bytes}
use Rattle.sha2.specs.Sha256.{digest_bytes, word_at}

four_below : (a b c d : ℕ) → a < 256 → b < 256 → c < 256 → d < 256 → (i : ℕ) → slice_index (a ∷ b ∷ c ∷ d ∷ []) i < 256
four_below a b c d ha hb hc hd zero = ha
four_below a b c d ha hb hc hd (suc zero) = hb
four_below a b c d ha hb hc hd (suc (suc zero)) = hc
four_below a b c d ha hb hc hd (suc (suc (suc zero))) = hd
four_below a b c d ha hb hc hd (suc (suc (suc (suc i)))) = omega arith

first_four : (xs : List ℕ) → 4 ≤ length xs
    → take 4 xs ≡ slice_index xs 0 ∷ slice_index xs 1 ∷ slice_index xs 2 ∷ slice_index xs 3 ∷ []
first_four [] h = absurd (omega arith)
first_four (a ∷ []) h = absurd (omega arith)
first_four (a ∷ b ∷ []) h = absurd (omega arith)
first_four (a ∷ b ∷ c ∷ []) h = absurd (omega arith)
first_four (a ∷ b ∷ c ∷ d ∷ xs) h = refl

-- the bytes of a word are those that it was read from
word_bytes : (v : List ℕ) (p : ℕ) → p + 4 ≤ length v → ((i : ℕ) → slice_index v i < 256)
    → to_be_bytes w32 (word_at v p) ≡ take 4 (drop p v)
word_bytes v p room bytes =
    let inside : 4 ≤ length (drop p v) = omega (arith, length-drop p v) in
    let none : p + 0 ≡ p = omega arith in
    let first : slice_index (drop p v) 0 ≡ slice_index v p = get_or-drop p v 0 0
    ∙ ap (λ (i : ℕ). slice_index v i) none in
    let parts : take 4 (drop p v) ≡ slice_index v p ∷ slice_index v (p + 1) ∷ slice_index v (p + 2)
    ∷ slice_index v (p + 3) ∷ [] =
    rw (first_four (drop p v) inside, first, get_or-drop p v 1 0, get_or-drop p v 2 0, get_or-drop p v 3 0) refl in
    be_bytes_4 (slice_index v p ∷ slice_index v (p + 1) ∷ slice_index v (p + 2) ∷ slice_index v (p + 3) ∷ [])
    (word_at v p) refl
    (four_below _ _ _ _ (bytes p) (bytes (p + 1)) (bytes (p + 2)) (bytes (p + 3))) refl
    ∙ sym parts

-- the bytes of n words are those that they were read from
pub words_bytes : (v words : List ℕ) (at n : ℕ) → at + 4 * n ≤ length v → ((i : ℕ) → slice_index v i < 256)
    → ((k : ℕ) → k < n → slice_index words k ≡ word_at v (at + 4 * k)) → digest_bytes words n ≡ take (4 * n) (drop at v)
unfolding digest_bytes
words_bytes v words at zero room bytes same = refl
words_bytes v words at (suc n) room bytes same =
    let more : 4 * suc n ≡ 4 * n + 4 = omega arith in
    let word = ap (to_be_bytes w32) (same n (omega arith)) ∙ word_bytes v (at + 4 * n) (omega arith) bytes in
    ap (λ x. x ++ to_be_bytes w32 (slice_index words n))
    (words_bytes v words at n (omega arith) bytes (λ k lt. same k (omega arith)))
    ∙ ap (λ x. take (4 * n) (drop at v) ++ x) (word ∙ ap (take 4) (sym (drop-drop (4 * n) at v)))
    ∙ sym (ap (λ (m : ℕ). take m (drop at v)) more ∙ take-add (4 * n) 4 (drop at v))

-- one lane more is written
pub lanes_more : (f : ℕ → ℕ) (words : List ℕ) (j x : ℕ) → length words ≡ 8 → j < 8 → x ≡ f j
    → ((k : ℕ) → k < j → slice_index words k ≡ f k) → (k : ℕ) → k < j + 1 → slice_index (slice_set words j x) k ≡ f k
lanes_more f words j x len lt e before =
    below_more (λ k. slice_index (slice_set words j x) k ≡ f k) j
    (λ k h. let ne : k ≢ j = omega arith in get_or-set_other words j k x 0 ne ∙ before k h)
    (get_or-set_same words j x 0 (omega arith) ∙ e)
