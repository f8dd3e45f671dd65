-- Values of 32 bytes that are hashed behind a head of 22, two at a time: each pair fills a block.
use Rattle.std.proofs.Common.{◌≡◌, ℕ, zero, suc, ◌<◌, ◌+◌, ◌-◌, ◌*◌, ◌/◌, ◌%◌, ◌^◌, List, ◌++◌, length, take, drop, slice_index, arith, refl, sym, ap, ◌∙◌}
use Rattle.std.proofs.Common.{length-append, length-drop}
use Rattle.std.proofs.lemmas.List.{take_all, append_assoc, take-append-drop, length-take-le}
use Rattle.sha2.specs.Sha256.{compress, digest_bytes, hash_after, initial_hash_256, padded_message, padding, sha256, word_at, IsAbsorbed}
use Rattle.sha2.proofs.Absorbing256.{IsAbsorbed_fill, IsAbsorbed_short}
use Rattle.lane_chains.specs.Chains.{joined}
use Rattle.lane_chains.specs.Made.{made_end, ending, halves_joined, pair_words}
use Rattle.lane_chains.proofs.HashLengths.{length-hash_under}
use Rattle.lane_chains.proofs.StepsInOneBlock.{below_sixteen}

-- the words of a pair's block are those of its bytes
pub pair_is : (p a b : List ℕ) (k : ℕ) → k < 16
    → slice_index (pair_words p a b) k
    ≡ word_at (drop 10 (digest_bytes p 8) ++ (digest_bytes a 8 ++ take 10 (digest_bytes b 8))) (4 * k)
unfolding digest_bytes halves_joined
pair_is p a b =
    below_sixteen _ refl refl refl refl refl refl refl refl refl refl refl refl refl refl refl refl

pub halves_joined_is : (a b : ℕ) → a < 2 ^ 32 → b < 2 ^ 32
    → (a * 2 ^ 16 % 2 ^ 32 + b / 2 ^ 16) % 2 ^ 32 ≡ halves_joined a b
unfolding halves_joined
halves_joined_is a b ha hb = omega arith

pub length-digest : (v : List ℕ) → length (digest_bytes v 8) ≡ 32
unfolding digest_bytes
length-digest v = refl

-- a message's whole blocks are hashed, and its last 22 bytes are the last of the value p
pub record Taken (h p m : List ℕ) : Type 0 where
  pub at : length m % 64 ≡ 22
  pub hash : h ≡ hash_after initial_hash_256 m (length m / 64)
  pub rest : drop 10 p ≡ drop (length m / 64 * 64) m

pub taken_none : (p m : List ℕ) → length m ≡ 22 → drop 10 p ≡ m → Taken initial_hash_256 p m
unfolding hash_after
taken_none p m len e =
    record {
      at = omega (arith, len);
      hash = rw len refl;
      rest = rw len e;
    }

module _ (h p m : List ℕ) (t : Taken h p m) where
  all_taken : take (length m % 64) (drop 10 p) ≡ drop 10 p
  all_taken =
      let len : length (drop 10 p) ≡ length m % 64 = ap length t.rest ∙ length-drop (length m / 64 * 64) m
      ∙ (let left : length m - length m / 64 * 64 ≡ length m % 64 = omega arith in left) in
      take_all (length m % 64) (drop 10 p) (omega (arith, len))

  absorbed : IsAbsorbed initial_hash_256 h (drop 10 p) m
  absorbed = (t.hash, all_taken ∙ t.rest)

  -- a block more
  filled : (c a b : List ℕ) → length a ≡ 32 → length b ≡ 32
      → IsAbsorbed initial_hash_256 (compress h (drop 10 p ++ (a ++ take 10 b))) c (m ++ (a ++ take 10 b))
  filled c a b la lb =
      let ten = length-take-le 10 b (omega arith) in
      let len : length (a ++ take 10 b) ≡ 42 = omega (arith, length-append a (take 10 b), ten) in
      IsAbsorbed_fill initial_hash_256 h (drop 10 p) c m (a ++ take 10 b) (drop 10 p ++ (a ++ take 10 b)) absorbed
      (omega (arith, t.at))
      (ap (λ (x : List ℕ). x ++ (a ++ take 10 b)) (sym all_taken))

  pub taken_more : (a b next : List ℕ) → length a ≡ 32 → length b ≡ 32
      → next ≡ compress h (drop 10 p ++ (a ++ take 10 b)) → Taken next b ((m ++ a) ++ b)
  taken_more a b next la lb e =
      let x : List ℕ = compress h (drop 10 p ++ (a ++ take 10 b)) in
      let d : List ℕ = a ++ take 10 b in
      let ten = length-take-le 10 b (omega arith) in
      let len : length (m ++ d) ≡ length m + 42 = omega (arith, length-append m d, length-append a (take 10 b), ten) in
      let edge : length (m ++ d) % 64 ≡ 0 = omega (arith, t.at) in
      let last : length (drop 10 b) ≡ 22 = omega (arith, length-drop 10 b) in
      let whole : (m ++ d) ++ drop 10 b ≡ (m ++ a) ++ b =
      append_assoc m d (drop 10 b)
      ∙ ap (λ (y : List ℕ). m ++ y) (append_assoc a (take 10 b) (drop 10 b) ∙ ap (λ (y : List ℕ). a ++ y) (take-append-drop 10 b))
      ∙ sym (append_assoc m a b) in
      let short : IsAbsorbed initial_hash_256 x (drop 10 b) ((m ++ d) ++ drop 10 b) =
      IsAbsorbed_short initial_hash_256 x (drop 10 b) (drop 10 b) (m ++ d) (drop 10 b) (filled (drop 10 b) a b la lb)
      (omega (arith, edge, last))
      (rw edge (take_all (0 + length (drop 10 b)) (drop 10 b) (omega arith))) in
      let held : IsAbsorbed initial_hash_256 x (drop 10 b) ((m ++ a) ++ b) = rw whole at short in
      let size : length ((m ++ a) ++ b) ≡ length m + 64 = omega (arith, length-append (m ++ a) b, length-append m a) in
      let at : length ((m ++ a) ++ b) % 64 ≡ 22 = omega (arith, t.at) in
      record {
        at = at;
        hash = e ∙ held.0;
        rest = sym (take_all (length ((m ++ a) ++ b) % 64) (drop 10 b) (omega (arith, at, last))) ∙ held.1;
      }

  ending_is : (n : ℕ) → n % 64 ≡ 54 → n * 8 < 2 ^ 64 → take 10 (ending n) ≡ padding n
  ending_is n at small =
      let zeros : (119 - n % 64) % 64 ≡ 1 = omega arith in
      let bits : n * 8 % 2 ^ 64 ≡ n * 8 = omega arith in
      rw (zeros, bits) refl

  pub taken_all : (a e next : List ℕ) → length a ≡ 32 → length m + 32 < 2 ^ 32 → e ≡ ending (length m + 32)
      → next ≡ compress h (drop 10 p ++ (a ++ take 10 e)) → digest_bytes next 8 ≡ sha256 (m ++ a)
  unfolding sha256
  taken_all a e next la small ee en =
      let le : length e ≡ 32 = ap length ee in
      let n : length (m ++ a) ≡ length m + 32 = omega (arith, length-append m a) in
      let pad : take 10 e ≡ padding (length (m ++ a)) =
      ap (take 10) ee ∙ ending_is (length m + 32) (omega (arith, t.at)) (omega arith) ∙ ap padding (sym n) in
      let whole : m ++ (a ++ take 10 e) ≡ padded_message (m ++ a) =
      ap (λ (y : List ℕ). m ++ (a ++ y)) pad ∙ sym (append_assoc m a (padding (length (m ++ a)))) in
      let done = filled (drop 10 p) a e la le in
      ap (λ (y : List ℕ). digest_bytes y 8)
      (en ∙ done.0 ∙ ap (λ (y : List ℕ). hash_after initial_hash_256 y (length y / 64)) whole)

-- two values more
pub pair_joined : (x : List ℕ) (f : ℕ → List ℕ) (n k : ℕ) (a b : List ℕ) → a ≡ f n → b ≡ f (n + 1) → k ≡ n + 2
    → ((x ++ joined f n) ++ a) ++ b ≡ x ++ joined f k
pair_joined x f n k a b ea eb ek =
    let one : n + 1 ≡ suc n = omega arith in
    let two : k ≡ suc (suc n) = omega arith in
    ap (λ (y : List ℕ). y ++ b) (append_assoc x (joined f n) a) ∙ append_assoc x (joined f n ++ a) b
    ∙ ap (λ (y : List ℕ). x ++ ((joined f n ++ y) ++ b)) ea
    ∙ ap (λ (y : List ℕ). x ++ ((joined f n ++ f n) ++ y)) (eb ∙ ap f one)
    ∙ ap (λ (y : ℕ). x ++ joined f y) (sym two)

-- the last value
pub last_joined : (x : List ℕ) (f : ℕ → List ℕ) (n k : ℕ) (a : List ℕ) → a ≡ f n → k ≡ n + 1
    → (x ++ joined f n) ++ a ≡ x ++ joined f k
last_joined x f n k a ea ek =
    let one : k ≡ suc n = omega arith in
    append_assoc x (joined f n) a ∙ ap (λ (y : List ℕ). x ++ (joined f n ++ y)) ea
    ∙ ap (λ (y : ℕ). x ++ joined f y) (sym one)

-- the head's parts, joined one by one
pub head_first : (id u w t : List ℕ) → (id ++ (u ++ w)) ++ t ≡ ((id ++ u) ++ w) ++ t
head_first id u w t = ap (λ (y : List ℕ). y ++ t) (sym (append_assoc id u w))

-- ends are hashes
pub length-made_end : (id : List ℕ) (q top : ℕ) (seed : List ℕ) (i : ℕ) → length (made_end id q top seed i) ≡ 32
length-made_end id q zero seed i = length-hash_under _ _ _ _
length-made_end id q (suc top) seed i = length-hash_under _ _ _ _

pub length-joined : (f : ℕ → List ℕ) → ((i : ℕ) → length (f i) ≡ 32) → (n : ℕ) → length (joined f n) ≡ 32 * n
length-joined f each zero = refl
length-joined f each (suc n) =
    let before = length-joined f each n in
    omega (arith, before, each n, length-append (joined f n) (f n))
