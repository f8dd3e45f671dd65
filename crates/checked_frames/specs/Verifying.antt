-- HSS verification as a test (RFC 8554, sections 5.4 and 6.3): the fields are read at their lengths, and what was
-- read has to spell the bytes. `hash_signatures` says the same as a relation; that the two agree is a law of this
-- crate.
use Rattle.std.specs.Prelude.{ℕ, zero, suc, ◌+◌, ◌-◌, ◌*◌, ◌^◌, Bool, false, ◌&&◌, if◌then◌else◌, List, [], ◌∷◌, ◌++◌}
use Rattle.std.specs.Prelude.{length, take, drop, Option, Some, None, option_and_then, nat_eq, nat_le, nat_lt}
use Rattle.std.specs.List.{list_any}
use Rattle.std.specs.Option.{option_map_or}
use Rattle.std.specs.Str.{bytes_eq}
use Rattle.byteorder.specs.Endian.{big_number}
use Rattle.wire_parts.specs.Fields.{u32_bytes}
use Rattle.ots_keys.specs.declared.parameters.Ots.{Ots}
use Rattle.ots_keys.specs.declared.parameters.Ots.TheVariants.{W1, W2, W4, W8}
use Rattle.ots_keys.specs.Parameters.{type_code, signature_len}
use Rattle.ots_keys.specs.Keys.{candidate}
use Rattle.tree_keys.specs.declared.public_key.PublicKey.{PublicKey}
use Rattle.tree_keys.specs.Nodes.{leaf_hash, climbed}
use Rattle.tree_keys.specs.PublicKeys.{key_bytes, tree_signature_len, signature_bytes}

-- the one-time keys that a type code names (section 4.1)
abbrev pub ots_of : ℕ → Option Ots
ots_of code =
    if nat_eq code 1 then Some W1
    else (if nat_eq code 2 then Some W2
    else (if nat_eq code 3 then Some W4
    else (if nat_eq code 4 then Some W8 else None)))

-- the height that a type code names (section 5.1)
abbrev pub height_of : ℕ → ℕ
height_of code = 5 * (code - 4)

-- these bytes are the LMS public key (section 5.3)
abbrev pub is_key : PublicKey → List ℕ → Bool
is_key key bytes =
    bytes_eq bytes (key_bytes key) && list_any (nat_eq key.height) (5 ∷ 10 ∷ 15 ∷ 20 ∷ 25 ∷ [])
    && nat_eq (length key.id) 16 && nat_eq (length key.root) 32

-- the key with the fields that stand in these bytes
abbrev pub key_read : List ℕ → Ots → PublicKey
key_read bytes ots = record {
  height = height_of (big_number 4 bytes);
  ots = ots;
  id = take 16 (drop 8 bytes);
  root = drop 24 bytes;
}

-- the LMS public key that these bytes are, if they are one
unfoldable pub key_in : List ℕ → Option PublicKey
key_in bytes =
    option_and_then (λ ots. if is_key (key_read bytes ots) bytes then Some (key_read bytes ots) else None)
    (ots_of (big_number 4 (drop 4 bytes)))

-- these fields are those of the LMS signature, and they lead from the message to the root of the key (section 5.4.2,
-- algorithm 6a)
abbrev pub fields_lead : PublicKey → List ℕ → List ℕ → ℕ → List ℕ → List ℕ → Bool
fields_lead key message sig q ots_sig path =
    let r = 2 ^ key.height + q in
    bytes_eq sig (signature_bytes key.height q ots_sig path)
    && nat_lt q (2 ^ key.height) && nat_eq (length path) (32 * key.height)
    && bytes_eq (take 4 ots_sig) (u32_bytes (type_code key.ots)) && nat_eq (length ots_sig) (signature_len key.ots)
    && bytes_eq (climbed key.id path r (leaf_hash key.id r (candidate key.ots key.id q message ots_sig)) key.height)
    key.root

-- the same of the fields that stand in the signature
unfoldable pub signed_under : PublicKey → List ℕ → List ℕ → Bool
signed_under key message sig =
    let behind = drop (signature_len key.ots) (drop 4 sig) in
    fields_lead key message sig (big_number 4 sig) (take (signature_len key.ots) (drop 4 sig)) (drop 4 behind)

-- the LMS public key verifies the message through so many signed keys: an LMS signature of the next key, that key, and
-- what follows them; behind the last one stands the LMS signature of the message (section 6.3)
abbrev pub leads_through : ℕ → List ℕ → List ℕ → List ℕ → Bool
leads_through zero public message sig = option_map_or (λ key. signed_under key message sig) (key_in public) false
leads_through (suc n) public message sig =
    option_map_or (λ key.
    let behind = drop (tree_signature_len key.height key.ots) sig in
    signed_under key (take 56 behind) (take (tree_signature_len key.height key.ots) sig)
    && leads_through n (take 56 behind) message (drop 56 behind))
    (key_in public) false

-- the HSS public key, u32str(L) || LMS public key, verifies the message's signature, u32str(L - 1) || signed keys ||
-- LMS signature, where L is 1 to 8 (sections 6.1 and 6.2)
unfoldable pub verifies : List ℕ → List ℕ → List ℕ → Bool
verifies public message sig =
    let levels = big_number 4 public in
    nat_le 1 levels && nat_le levels 8
    && bytes_eq public (u32_bytes levels ++ drop 4 public) && bytes_eq sig (u32_bytes (levels - 1) ++ drop 4 sig)
    && leads_through (levels - 1) (drop 4 public) message (drop 4 sig)
