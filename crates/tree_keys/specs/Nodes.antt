-- The hashes of a tree (RFC 8554, section 5.3). Node 1 is the root, and below node r stand the nodes
-- 2 * r and 2 * r + 1; the leaves of a tree of height h are the nodes from 2 ^ h on.
use Rattle.std.specs.Prelude.{◌==◌, ℕ, zero, suc, ◌+◌, ◌*◌, ◌/◌, ◌%◌, ◌-◌, ◌^◌, nat_le, if◌then◌else◌, List, [], ◌∷◌}
use Rattle.std.specs.Prelude.{◌++◌, take, drop}
use Rattle.ots_keys.specs.declared.parameters.Ots.{Ots}
use Rattle.ots_keys.specs.Hash.{hash_under}
use Rattle.ots_keys.specs.Keys.{public_key}

-- D_LEAF and D_INTR
abbrev pub leaf_tag : ℕ
leaf_tag = 0x8282

abbrev pub inner_tag : ℕ
inner_tag = 0x8383

-- a leaf: H(I || u32str(r) || u16str(D_LEAF) || K)
abbrev pub leaf_hash : List ℕ → ℕ → List ℕ → List ℕ
leaf_hash id r key = hash_under id r leaf_tag key

-- an inner node: H(I || u32str(r) || u16str(D_INTR) || T[2r] || T[2r+1])
abbrev pub inner_hash : List ℕ → ℕ → List ℕ → List ℕ → List ℕ
inner_hash id r left right = hash_under id r inner_tag (left ++ right)

-- a tree: its height, the type of its one-time keys, its identifier I and its seed
pub record TreeSeed : Type 0 where
  pub height : ℕ
  pub ots : Ots
  pub id : List ℕ
  pub seed : List ℕ

-- the tree with these parts
abbrev pub tree_from : ℕ → Ots → List ℕ → List ℕ → TreeSeed
tree_from height ots id seed = record { height = height; ots = ots; id = id; seed = seed }

-- the leaf r, over the one-time key pair r - 2 ^ h
abbrev pub leaf_of : TreeSeed → ℕ → List ℕ
leaf_of tree r = leaf_hash tree.id r (public_key tree.ots tree.id (r - 2 ^ tree.height) tree.seed)

-- T[r], where no more than n levels lie below node r
abbrev pub node_within : TreeSeed → ℕ → ℕ → List ℕ
node_within tree zero r = leaf_of tree r
node_within tree (suc n) r =
    if nat_le (2 ^ tree.height) r then leaf_of tree r
    else inner_hash tree.id r (node_within tree n (2 * r)) (node_within tree n (2 * r + 1))

-- T[r]
unfoldable pub node : TreeSeed → ℕ → List ℕ
node tree r = node_within tree tree.height r

-- n nodes, from the last one down
abbrev pub stored : TreeSeed → ℕ → List (List ℕ)
stored tree zero = []
stored tree (suc n) = stored tree n ++ node tree (2 * 2 ^ tree.height - 1 - n) ∷ []

-- the other node below the same parent
abbrev pub sibling : ℕ → ℕ
sibling r = if r % 2 == 1 then r - 1 else r + 1

-- the parent of node r, which has this hash, as has its sibling
abbrev pub parent_hash : List ℕ → ℕ → List ℕ → List ℕ → List ℕ
parent_hash id r here beside =
    if r % 2 == 1 then inner_hash id (r / 2) beside here else inner_hash id (r / 2) here beside

-- path[i] of a path of 32 bytes a level
abbrev pub path_at : List ℕ → ℕ → List ℕ
path_at path i = take 32 (drop (32 * i) path)

-- the hash i levels above node r, which has the hash `leaf`, by the path of the siblings
-- (section 5.4.2, algorithm 6a, step 4)
abbrev pub climbed : List ℕ → List ℕ → ℕ → List ℕ → ℕ → List ℕ
climbed id path r leaf zero = leaf
climbed id path r leaf (suc i) = parent_hash id (r / 2 ^ i) (climbed id path r leaf i) (path_at path i)
