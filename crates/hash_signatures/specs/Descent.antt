-- What a key keeps of the way to its present leaf: all of a signature but the last LMS signature
-- stays the same while the lowest tree does.
use Rattle.std.specs.Prelude.{ℕ, List, [], ◌∷◌, ◌++◌}
use Rattle.tree_keys.specs.Nodes.{TreeSeed}
use Rattle.hash_signatures.specs.Signatures.{child_tree, leaf_at, signed_key}

-- the signed keys from this tree down
abbrev pub front_below : TreeSeed → List ℕ → ℕ → List ℕ
front_below tree [] m = []
front_below tree (h ∷ hs) m =
    let q = leaf_at tree (h ∷ hs) m in
    signed_key tree h q ++ front_below (child_tree tree h q) hs m

-- the lowest tree
abbrev pub bottom_below : TreeSeed → List ℕ → ℕ → TreeSeed
bottom_below tree [] m = tree
bottom_below tree (h ∷ hs) m = bottom_below (child_tree tree h (leaf_at tree (h ∷ hs) m)) hs m
