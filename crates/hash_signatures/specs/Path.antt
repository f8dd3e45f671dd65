-- The way that a key keeps to its present leaf.
use Rattle.std.specs.Prelude.{◌≡◌, ℕ, List, [], ◌∷◌, ◌++◌, length, Option, Some, None}
use Rattle.wire_parts.specs.Fields.{u32_bytes}
use Rattle.tree_keys.specs.Nodes.{TreeSeed}
use Rattle.tree_keys.specs.Trees.{IsMadeHeight}
use Rattle.hash_signatures.specs.declared.descent.Way.{Way}
use Rattle.hash_signatures.specs.declared.path.Path.{Path}
use Rattle.hash_signatures.specs.Signatures.{Key, top_tree}
use Rattle.hash_signatures.specs.Descent.{front_below, bottom_below}

-- all of signature m but its last LMS signature
abbrev pub front_of : Key → List ℕ → ℕ → List ℕ
front_of key [] m = []
front_of key (h ∷ hs) m = u32_bytes (length hs) ++ front_below (top_tree key h) hs m

-- the tree that makes the last LMS signature
abbrev pub bottom_of : Key → List ℕ → ℕ → TreeSeed
bottom_of key [] m = top_tree key 0
bottom_of key (h ∷ hs) m = bottom_below (top_tree key h) hs m

-- the way leads to signature m of the key
pub record IsWayOf (key : Key) (m : ℕ) (way : Way) : Type 0 where
  pub front : way.front.items ≡ front_of key key.heights m
  pub lowest : way.lowest ≡ bottom_of key key.heights m
  pub height : IsMadeHeight way.lowest.height

-- the kept path, if there is one, leads to the signature that it says
abbrev pub IsKeptPath : Key → Option Path → Type 0
IsKeptPath key None = Unit {0}
IsKeptPath key (Some path) = IsWayOf key path.at path.way
