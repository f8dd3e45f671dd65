-- HSS: a key of up to six levels of trees, and its signatures in order (RFC 8554, section 6). How
-- lower trees come from those above is this project's own, since the RFC leaves it to the signer.
use Rattle.std.specs.Prelude.{ℕ, ◌+◌, ◌*◌, ◌/◌, ◌%◌, ◌^◌, List, [], ◌∷◌, ◌++◌, length, map, take}
use Rattle.wire_parts.specs.Fields.{u8_bytes, u32_bytes}
use Rattle.ots_keys.specs.declared.parameters.Ots.{Ots}
use Rattle.ots_keys.specs.Hash.{hash_under}
use Rattle.tree_keys.specs.Nodes.{TreeSeed, tree_from}
use Rattle.tree_keys.specs.Trees.{tree_public, tree_signature}

-- the fixed parts of a key: its seed, its identifier I, the heights of its levels from the top down,
-- and the type of its one-time keys
pub record Key : Type 0 where
  pub seed : List ℕ
  pub id : List ℕ
  pub heights : List ℕ
  pub ots : Ots

-- all heights together: 2 to this power is the number of leaves of the lowest trees
abbrev pub total : List ℕ → ℕ
total [] = 0
total (h ∷ hs) = h + total hs

-- the number of signatures that a key has
abbrev pub all_leaves : Key → ℕ
all_leaves key = 2 ^ total key.heights

abbrev pub child_id_tag : ℕ
child_id_tag = 0xFFFE

abbrev pub child_seed_tag : ℕ
child_seed_tag = 0xFFFF

-- the tree of height h under leaf q: its I and SEED come from those of the tree above
unfoldable pub child_tree : TreeSeed → ℕ → ℕ → TreeSeed
child_tree tree h q = tree_from h tree.ots
    (take 16 (hash_under tree.id q child_id_tag (u8_bytes 0xff ++ tree.seed)))
    (hash_under tree.id q child_seed_tag (u8_bytes 0xff ++ tree.seed))

-- the leaf of a tree that signature m goes through, with these heights below: the lowest trees'
-- leaves are used from left to right, and the quotients choose the leaves above
unfoldable pub leaf_at : TreeSeed → List ℕ → ℕ → ℕ
leaf_at tree lower m = m / 2 ^ total lower % 2 ^ tree.height

-- a signed key: the signature of the LMS public key of the tree under leaf q, and that key
abbrev pub signed_key : TreeSeed → ℕ → ℕ → List ℕ
signed_key tree h q = tree_signature tree q (tree_public (child_tree tree h q)) ++ tree_public (child_tree tree h q)

-- the signed keys and the LMS signature of signature m, from this tree down
abbrev pub signed_below : TreeSeed → List ℕ → ℕ → List ℕ → List ℕ
signed_below tree [] m message = tree_signature tree (leaf_at tree [] m) message
signed_below tree (h ∷ hs) m message =
    let q = leaf_at tree (h ∷ hs) m in
    signed_key tree h q ++ signed_below (child_tree tree h q) hs m message

abbrev pub top_tree : Key → ℕ → TreeSeed
top_tree key h = tree_from h key.ots key.id key.seed

-- the public key: u32str(L) || LMS public key of the top tree (section 6.1)
abbrev pub public_of : Key → List ℕ → List ℕ
public_of key [] = []
public_of key (h ∷ hs) = u32_bytes (length (h ∷ hs)) ++ tree_public (top_tree key h)

unfoldable pub key_public : Key → List ℕ
key_public key = public_of key key.heights

-- signature m of a message: u32str(L - 1) || signed keys || LMS signature (section 6.2)
abbrev pub signature_of : Key → List ℕ → ℕ → List ℕ → List ℕ
signature_of key [] m message = []
signature_of key (h ∷ hs) m message = u32_bytes (length hs) ++ signed_below (top_tree key h) hs m message

unfoldable pub signature_at : Key → ℕ → List ℕ → List ℕ
signature_at key m message = signature_of key key.heights m message

-- each head with signature m of the message behind it
abbrev pub signed_behind : Key → ℕ → List ℕ → List (List ℕ) → List (List ℕ)
signed_behind key m message heads = map (λ head. head ++ signature_at key m message) heads

-- No signature of a key has more bytes: six levels of the longest LMS signature that there is, of 9,324 bytes, and
-- five public keys.
unfoldable pub longest_signature : ℕ
longest_signature = 4 + 6 * 9324 + 5 * 56
