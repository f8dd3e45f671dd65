-- The tree of hashes over a group of bodies (this project's own, after Merkle). Each leaf is the hash of a body's text.
-- Level by level neighbours are joined, and an odd last one goes up as it is, until one is left: the root. Leaves and
-- joined hashes begin with different bytes, so none is taken for the other.
use Rattle.std.specs.Prelude.{ℕ, zero, suc, ◌==◌, ◌+◌, ◌-◌, ◌/◌, ◌%◌, if◌then◌else◌, List, [], ◌∷◌, ◌++◌, length}
use Rattle.std.specs.Prelude.{take, drop, Option, Some, None, nat_lt, nat_le}
use Rattle.std.specs.List.{slice_index_or}
use Rattle.wire_parts.specs.Fields.{u8_bytes}
use Rattle.sha2.specs.Sha256.{sha256}

unfoldable pub leaf_hash : List ℕ → List ℕ
leaf_hash text = sha256 (u8_bytes 0 ++ text)

unfoldable pub joined_hash : List ℕ → List ℕ → List ℕ
joined_hash left right = sha256 (u8_bytes 1 ++ left ++ right)

-- the level above
abbrev pub level_above : List (List ℕ) → List (List ℕ)
level_above [] = []
level_above (last ∷ []) = last ∷ []
level_above (left ∷ right ∷ rest) = joined_hash left right ∷ level_above rest

-- so many levels above
abbrev pub raised : ℕ → List (List ℕ) → List (List ℕ)
raised zero nodes = nodes
raised (suc n) nodes = raised n (level_above nodes)

-- five levels join as many leaves as may share a signature
unfoldable pub most_levels : ℕ
most_levels = 5

unfoldable pub root_of : List (List ℕ) → List ℕ
root_of leaves = slice_index_or (raised most_levels leaves) 0 []

-- the other node below the same parent
abbrev pub sibling : ℕ → ℕ
sibling place = if place % 2 == 1 then place - 1 else place + 1

-- the sibling's hash, or nothing beside an odd last node
abbrev pub beside : List (List ℕ) → ℕ → List ℕ
beside nodes place = if nat_lt (sibling place) (length nodes) then slice_index_or nodes (sibling place) [] else []

-- the path of a leaf: the siblings' hashes of the way up, the lowest first
abbrev pub path_up : ℕ → List (List ℕ) → ℕ → List ℕ
path_up zero nodes place = []
path_up (suc n) nodes place = beside nodes place ++ path_up n (level_above nodes) (place / 2)

unfoldable pub path_of : List (List ℕ) → ℕ → List ℕ
path_of leaves place = path_up most_levels leaves place

-- the parent of a node and its sibling
abbrev pub parent_hash : ℕ → List ℕ → List ℕ → List ℕ
parent_hash place here sibling_hash =
    if place % 2 == 1 then joined_hash sibling_hash here else joined_hash here sibling_hash

-- where a path leads from a node at a place among so many: each level that has a sibling takes the next 32 bytes; none
-- where the path ends too soon or too late
abbrev pub led_to : ℕ → ℕ → ℕ → List ℕ → List ℕ → Option (List ℕ)
led_to zero count place here path = if nat_lt 0 (length path) then None else Some here
led_to (suc n) count place here path =
    if nat_lt (sibling place) count
    then (if nat_le 32 (length path)
    then led_to n ((count + 1) / 2) (place / 2) (parent_hash place here (take 32 path)) (drop 32 path)
    else None)
    else led_to n ((count + 1) / 2) (place / 2) here path
