-- What the crates above need of these definitions: the lengths of hashes, keys and signatures, and
-- that a key pair's own signatures give its public key.
use Rattle.std.specs.Prelude.{◌≡◌, ◌≤◌, ◌<◌, ℕ, zero, suc, ◌+◌, ◌-◌, ◌*◌, List, ◌++◌, length, take, drop, refl}
use Rattle.std.proofs.Common.{ap, ◌∙◌, arith, length-append, append_assoc, inl, inr}
use Rattle.std.proofs.lemmas.Nat.{and_le_l}
use Rattle.std.proofs.lemmas.List.{drop_at, take_at, take_all, take-append-le, drop-append-le, length-drop}
use Rattle.std.proofs.lemmas.Bool.{cases_lt}
use Rattle.std.proofs.Math.Seq.{drop-append-add}
use Rattle.wire_parts.specs.Fields.{u8_bytes, u32_bytes}
use Rattle.wire_parts.specs.FieldLaws.{length-u32_bytes}
use Rattle.ots_keys.specs.declared.parameters.Ots.{Ots}
use Rattle.ots_keys.specs.Parameters.{type_code, chains, top_digit, signature_len}
use Rattle.ots_keys.specs.Digits.{coef, digit}
use Rattle.lane_chains.specs.Hash.{hash_under}
use Rattle.lane_chains.specs.Chains.{joined, chain}
use Rattle.lane_chains.proofs.ChainsGrow.{joined-cong}
pub use Rattle.lane_chains.proofs.HashLengths.{length-hash_under}
use Rattle.ots_keys.specs.Keys.{secret, public_key, key_of_ends, chain_end, signature, signed_element, candidate}
use Rattle.ots_keys.specs.Keys.{finished_element, IsSignatureForm, randomizer, randomizer_in, message_hash}
use Rattle.ots_keys.specs.Keys.{element_in, public_tag}

pub length-public_key : (ots : Ots) (id : List ℕ) (q : ℕ) (seed : List ℕ) → length (public_key ots id q seed) ≡ 32
unfolding public_key
length-public_key ots id q seed = length-hash_under _ _ _ _

-- a chain's values have 32 bytes where its start has
pub length-chain : (id : List ℕ) (q i from n : ℕ) (start : List ℕ) → length start ≡ 32 →
    length (chain id q i from n start) ≡ 32
length-chain id q i from zero start h = h
length-chain id q i from (suc n) start h = length-hash_under _ _ _ _

length-signed_element : (ots : Ots) (id : List ℕ) (q : ℕ) (seed hash : List ℕ) (i : ℕ) →
    length (signed_element ots id q seed hash i) ≡ 32
unfolding secret
length-signed_element ots id q seed hash i = length-chain id q i 0 _ _ (length-hash_under _ _ _ _)

-- n pieces of 32 bytes
pub length-joined : (f : ℕ → List ℕ) → ((i : ℕ) → length (f i) ≡ 32) → (n : ℕ) → length (joined f n) ≡ 32 * n
length-joined f h zero = refl
length-joined f h (suc n) =
    let before = length-joined f h n in
    let piece = h n in
    omega (arith, before, length-append (joined f n) (f n))

pub length-signature : (ots : Ots) (id : List ℕ) (q : ℕ) (seed message : List ℕ) →
    length (signature ots id q seed message) ≡ signature_len ots
unfolding signature
length-signature ots id q seed message =
    let c = randomizer id q seed in
    let code = u32_bytes (type_code ots) in
    let f = signed_element ots id q seed (message_hash id q c message) in
    let whole = length-append (code ++ c) (joined f (chains ots)) in
    let front = length-append code c in
    let elements = length-joined f (length-signed_element ots id q seed (message_hash id q c message)) (chains ots) in
    let c_len : length c ≡ 32 = length-hash_under _ _ _ _ in
    omega (arith, whole, front, elements, c_len, length-u32_bytes (type_code ots))

-- piece i of pieces of 32 bytes
pub joined-at : (f : ℕ → List ℕ) → ((i : ℕ) → length (f i) ≡ 32) → (n i : ℕ) → i < n →
    take 32 (drop (32 * i) (joined f n)) ≡ f i
joined-at f h zero i lt = absurd (omega arith)
joined-at f h (suc n) i lt = elim (cases_lt i n) [
  | inl before ↦
      let len = length-joined f h n in
      let dropped = drop-append-le (32 * i) (joined f n) (f n) (omega arith) in
      let room : 32 ≤ length (drop (32 * i) (joined f n)) = omega (arith, length-drop (32 * i) (joined f n)) in
      rw dropped (take-append-le 32 (drop (32 * i) (joined f n)) (f n) room ∙ joined-at f h n i before)
  | inr after ↦
      let last : i ≡ n = omega arith in
      let piece = h n in
      rw last (ap (take 32) (drop_at (joined f n) (f n) (32 * n) (length-joined f h n))
      ∙ take_all 32 (f n) (omega arith))
]

-- steps from where earlier steps ended
chain-chain : (id : List ℕ) (q i a n : ℕ) (start : List ℕ) →
    chain id q i a n (chain id q i 0 a start) ≡ chain id q i 0 (a + n) start
chain-chain id q i a zero start = let e : a + 0 ≡ a = omega arith in rw e refl
chain-chain id q i a (suc n) start =
    let e : a + suc n ≡ suc (a + n) = omega arith in
    let z : 0 + (a + n) ≡ a + n = omega arith in
    rw (e, z) (ap (λ x. hash_under id q i (u8_bytes (a + n) ++ x)) (chain-chain id q i a n start))

-- no digit is above the greatest
pub digit_le : (ots : Ots) (hash : List ℕ) (i : ℕ) → digit ots hash i ≤ top_digit ots
unfolding digit coef
digit_le ots hash i = and_le_l _ _

-- what the parts of a signature are
randomizer_in-signature : (code c elements : List ℕ) → length code ≡ 4 → length c ≡ 32
    → randomizer_in (code ++ c ++ elements) ≡ c
randomizer_in-signature code c elements code_len c_len =
    rw (append_assoc code c elements, drop_at code (c ++ elements) 4 code_len) (take_at c elements 32 c_len)

element_in-signature : (code c : List ℕ) (f : ℕ → List ℕ) (n i : ℕ) → length code ≡ 4 → length c ≡ 32
    → ((k : ℕ) → length (f k) ≡ 32) → i < n → element_in (code ++ c ++ joined f n) i ≡ f i
element_in-signature code c f n i code_len c_len pieces lt =
    let at : 36 + 32 * i ≡ length (code ++ c) + 32 * i = omega (arith, length-append code c) in
    rw (at, drop-append-add (code ++ c) (joined f n) (32 * i)) (joined-at f pieces n i lt)

-- an element of a signature, finished, is the end of its chain
finished-signed : (ots : Ots) (id : List ℕ) (q : ℕ) (seed hash sig : List ℕ) (i : ℕ)
    → element_in sig i ≡ signed_element ots id q seed hash i →
    finished_element ots id q hash sig i ≡ chain_end ots id q seed i
finished-signed ots id q seed hash sig i e =
    let d = digit ots hash i in
    let whole : d + (top_digit ots - d) ≡ top_digit ots = omega (arith, digit_le ots hash i) in
    ap (chain id q i d (top_digit ots - d)) e ∙ chain-chain id q i d (top_digit ots - d) (secret id q seed i)
    ∙ ap (λ n. chain id q i 0 n (secret id q seed i)) whole

-- a signature has the form of one
pub signature_form : (ots : Ots) (id : List ℕ) (q : ℕ) (seed message : List ℕ) →
    IsSignatureForm ots (signature ots id q seed message)
unfolding signature
signature_form ots id q seed message =
    let c = randomizer id q seed in
    let code = u32_bytes (type_code ots) in
    let elements = joined (signed_element ots id q seed (message_hash id q c message)) (chains ots) in
    record {
      code = rw (append_assoc code c elements) (take_at code (c ++ elements) 4 (length-u32_bytes (type_code ots)));
      len = length-signature ots id q seed message;
    }

-- the signature of a message gives the public key of the key pair that made it (section 4.6)
pub candidate-signature : (ots : Ots) (id : List ℕ) (q : ℕ) (seed message : List ℕ)
    → candidate ots id q message (signature ots id q seed message) ≡ public_key ots id q seed
unfolding candidate signature public_key
candidate-signature ots id q seed message =
    let c = randomizer id q seed in
    let code = u32_bytes (type_code ots) in
    let hash = message_hash id q c message in
    let f = signed_element ots id q seed hash in
    let code_len = length-u32_bytes (type_code ots) in
    let c_len : length c ≡ 32 = length-hash_under _ _ _ _ in
    let sig = code ++ c ++ joined f (chains ots) in
    let ends = joined-cong (finished_element ots id q hash sig) (chain_end ots id q seed) (chains ots) (λ i lt.
    finished-signed ots id q seed hash sig i
    (element_in-signature code c f (chains ots) i code_len c_len (length-signed_element ots id q seed hash) lt)) in
    let same = randomizer_in-signature code c (joined f (chains ots)) code_len c_len in
    ap (λ r. key_of_ends ots id q (finished_element ots id q (message_hash id q r message) sig)) same
    ∙ ap (λ x. hash_under id q public_tag x) ends
