-- LM-OTS: one-time key pairs, signatures and candidates (RFC 8554, section 4). A key pair is that of
-- leaf q under the identifier id; its private parts come from one seed by the RFC's appendix A.
use Rattle.std.specs.Prelude.{◌≡◌, ℕ, ◌+◌, ◌-◌, ◌*◌, List, ◌++◌, length, take, drop}
use Rattle.wire_parts.specs.Fields.{u8_bytes, u32_bytes}
use Rattle.ots_keys.specs.declared.parameters.Ots.{Ots}
use Rattle.ots_keys.specs.Parameters.{type_code, chains, top_digit, signature_len}
use Rattle.ots_keys.specs.Digits.{digit}
use Rattle.lane_chains.specs.Hash.{hash_under}
pub use Rattle.lane_chains.specs.Chains.{joined, chain}

-- D_PBLC and D_MESG (section 4.3, 4.5)
abbrev pub public_tag : ℕ
public_tag = 0x8080

abbrev pub message_tag : ℕ
message_tag = 0x8181

-- the tag of the randomizer, which the RFC leaves to the signer (this project's own)
abbrev pub randomizer_tag : ℕ
randomizer_tag = 0xFFFD

-- x[i] = H(I || u32str(q) || u16str(i) || u8str(0xff) || SEED) (appendix A)
unfoldable pub secret : List ℕ → ℕ → List ℕ → ℕ → List ℕ
secret id q seed i = hash_under id q i (u8_bytes 0xff ++ seed)

-- K = H(I || u32str(q) || u16str(D_PBLC) || y[0] || .. || y[p-1]) (section 4.3)
abbrev pub key_of_ends : Ots → List ℕ → ℕ → (ℕ → List ℕ) → List ℕ
key_of_ends ots id q ends = hash_under id q public_tag (joined ends (chains ots))

-- the end of chain i, all its steps from x[i]
abbrev pub chain_end : Ots → List ℕ → ℕ → List ℕ → ℕ → List ℕ
chain_end ots id q seed i = chain id q i 0 (top_digit ots) (secret id q seed i)

-- the public key K of the key pair (section 4.3)
unfoldable pub public_key : Ots → List ℕ → ℕ → List ℕ → List ℕ
public_key ots id q seed = key_of_ends ots id q (chain_end ots id q seed)

-- Q = H(I || u32str(q) || u16str(D_MESG) || C || message) (section 4.5)
abbrev pub message_hash : List ℕ → ℕ → List ℕ → List ℕ → List ℕ
message_hash id q randomizer message = hash_under id q message_tag (randomizer ++ message)

-- C, made of the seed as the private parts are (this project's own)
abbrev pub randomizer : List ℕ → ℕ → List ℕ → List ℕ
randomizer id q seed = hash_under id q randomizer_tag (u8_bytes 0xff ++ seed)

-- y[i] of the signature of what has this hash: as many steps from x[i] as digit i says (section 4.5)
abbrev pub signed_element : Ots → List ℕ → ℕ → List ℕ → List ℕ → ℕ → List ℕ
signed_element ots id q seed hash i = chain id q i 0 (digit ots hash i) (secret id q seed i)

-- u32str(type) || C || y[0] || .. || y[p-1] (section 4.5)
unfoldable pub signature : Ots → List ℕ → ℕ → List ℕ → List ℕ → List ℕ
signature ots id q seed message =
    let c = randomizer id q seed in
    let hash = message_hash id q c message in
    u32_bytes (type_code ots) ++ c ++ joined (signed_element ots id q seed hash) (chains ots)

-- the bytes begin with the type code and have the length of a signature of that type (section 4.6,
-- algorithm 4b, steps 1 and 2)
pub record IsSignatureForm (ots : Ots) (sig : List ℕ) : Type 0 where
  pub code : take 4 sig ≡ u32_bytes (type_code ots)
  pub len : length sig ≡ signature_len ots

-- C and y[i] of a signature
abbrev pub randomizer_in : List ℕ → List ℕ
randomizer_in sig = take 32 (drop 4 sig)

abbrev pub element_in : List ℕ → ℕ → List ℕ
element_in sig i = take 32 (drop (36 + 32 * i) sig)

-- z[i]: the steps that are left from y[i] (section 4.6, algorithm 4b, step 3)
abbrev pub finished_element : Ots → List ℕ → ℕ → List ℕ → List ℕ → ℕ → List ℕ
finished_element ots id q hash sig i =
    chain id q i (digit ots hash i) (top_digit ots - digit ots hash i) (element_in sig i)

-- Kc, the public key that the signature of the message gives (section 4.6, algorithm 4b)
unfoldable pub candidate : Ots → List ℕ → ℕ → List ℕ → List ℕ → List ℕ
candidate ots id q message sig =
    let hash = message_hash id q (randomizer_in sig) message in
    key_of_ends ots id q (finished_element ots id q hash sig)
