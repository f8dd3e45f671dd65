-- LMS public keys and what they verify (RFC 8554, section 5.4).
use Rattle.std.specs.Prelude.{◌≡◌, ◌↔◌, ◌<◌, ℕ, ◌+◌, ◌*◌, ◌/◌, ◌^◌, List, [], ◌∷◌, ◌++◌, length, Contains}
use Rattle.wire_parts.specs.Fields.{u32_bytes}
use Rattle.ots_keys.specs.declared.parameters.Ots.{Ots}
use Rattle.ots_keys.specs.Parameters.{type_code, signature_len}
use Rattle.ots_keys.specs.Keys.{IsSignatureForm, candidate}
use Rattle.tree_keys.specs.declared.public_key.PublicKey.{PublicKey}
use Rattle.tree_keys.specs.Nodes.{leaf_hash, climbed}

-- the heights of table 2 (section 5.1)
abbrev pub IsTreeHeight : ℕ → Type 0
IsTreeHeight height = Contains (5 ∷ 10 ∷ 15 ∷ 20 ∷ 25 ∷ []) height

-- the type codes of table 2: 5, 6, 7, 8 and 9 for these heights
abbrev pub tree_code : ℕ → ℕ
tree_code height = 4 + height / 5

-- u32str(type) || u32str(otstype) || I || T[1] (section 5.3)
abbrev pub key_bytes : PublicKey → List ℕ
key_bytes key = u32_bytes (tree_code key.height) ++ u32_bytes (type_code key.ots) ++ key.id ++ key.root

-- these bytes are the public key (section 5.4.2, algorithm 6, steps 1 to 2)
pub record IsKey (key : PublicKey) (bytes : List ℕ) : Type 0 where
  pub spelled : bytes ≡ key_bytes key
  pub height : IsTreeHeight key.height
  pub id : length key.id ≡ 16
  pub root : length key.root ≡ 32

-- the bytes of a signature: q, the one-time signature, the type code and a path (section 5.4)
abbrev pub tree_signature_len : ℕ → Ots → ℕ
tree_signature_len height ots = 8 + signature_len ots + 32 * height

-- u32str(q) || one-time signature || u32str(type) || path[0] || .. || path[h-1] (section 5.4)
abbrev pub signature_bytes : ℕ → ℕ → List ℕ → List ℕ → List ℕ
signature_bytes height q ots_sig path = u32_bytes q ++ ots_sig ++ u32_bytes (tree_code height) ++ path

-- the path leads from the one-time key of leaf q to the root of the key (section 5.4.2, algorithm 6a, steps 3 and 4)
abbrev pub ClimbsToRoot : PublicKey → ℕ → List ℕ → List ℕ → Type 0
ClimbsToRoot key q ots_key path =
    let r = 2 ^ key.height + q in climbed key.id path r (leaf_hash key.id r ots_key) key.height ≡ key.root

-- the one-time signature and the path lead from the message to the root of the key
pub record LeadsToRoot (key : PublicKey) (q : ℕ) (message ots_sig path : List ℕ) : Type 0 where
  pub form : IsSignatureForm key.ots ots_sig
  pub root : ClimbsToRoot key q (candidate key.ots key.id q message ots_sig) path

-- the signature leads from the message to the root of the key (section 5.4.2, algorithm 6a). That
-- the two type codes are the key's is this project's own rule for what algorithm 6a calls invalid.
pub record IsSignedUnder (key : PublicKey) (message sig : List ℕ) : Type 0 where
  pub q : ℕ
  pub ots_sig : List ℕ
  pub path : List ℕ
  pub spelled : sig ≡ signature_bytes key.height q ots_sig path
  pub leaf : q < 2 ^ key.height
  pub levels : length path ≡ 32 * key.height
  pub leads : LeadsToRoot key q message ots_sig path

-- these are the signature's parts: it is right for a message exactly where they lead from it to the root
pub record HasParts (key : PublicKey) (sig : List ℕ) (q : ℕ) (ots_sig path : List ℕ) : Type 0 where
  pub leaf : q < 2 ^ key.height
  pub levels : length path ≡ 32 * key.height
  pub leads : (message : List ℕ) → IsSignedUnder key message sig ↔ LeadsToRoot key q message ots_sig path

-- the bytes of a public key verify the signature of the message
abbrev pub TreeVerifies : List ℕ → List ℕ → List ℕ → Type 0
TreeVerifies public message sig = (key : PublicKey) × IsKey key public × IsSignedUnder key message sig
