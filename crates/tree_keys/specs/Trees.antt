-- LMS key pairs and their signatures (RFC 8554, sections 5.2 to 5.4).
use Rattle.std.specs.Prelude.{◌≡◌, ◌⊎◌, ℕ, ◌+◌, ◌/◌, ◌^◌, List, ◌++◌}
use Rattle.wire_parts.specs.Fields.{u32_bytes}
use Rattle.ots_keys.specs.Parameters.{type_code}
use Rattle.ots_keys.specs.Keys.{joined, signature}
use Rattle.tree_keys.specs.Nodes.{TreeSeed, node, sibling}
use Rattle.tree_keys.specs.PublicKeys.{tree_code, signature_bytes}

-- trees are made with these heights alone (this project's own)
abbrev pub IsMadeHeight : ℕ → Type 0
IsMadeHeight height = (height ≡ 5) ⊎ (height ≡ 10)

-- the public key: u32str(type) || u32str(otstype) || I || T[1] (section 5.3)
unfoldable pub tree_public : TreeSeed → List ℕ
tree_public tree = u32_bytes (tree_code tree.height) ++ u32_bytes (type_code tree.ots) ++ tree.id ++ node tree 1

-- path[i] for leaf q: the sibling of the node that stands i levels above the leaf (section 5.4.1)
abbrev pub path_node : TreeSeed → ℕ → ℕ → List ℕ
path_node tree q i = node tree (sibling ((2 ^ tree.height + q) / 2 ^ i))

-- the signature of a message with leaf q (section 5.4.1)
unfoldable pub tree_signature : TreeSeed → ℕ → List ℕ → List ℕ
tree_signature tree q message =
    signature_bytes tree.height q (signature tree.ots tree.id q tree.seed message)
    (joined (path_node tree q) tree.height)
