-- A tree as it is kept: its levels, from the leaves up.
use Rattle.std.specs.Prelude.{ℕ, zero, suc, ◌/◌, List, [], ◌∷◌, ◌++◌}
use Rattle.checked_frames.specs.Groups.{level_above, beside}

abbrev pub levels_up : ℕ → List (List ℕ) → List (List (List ℕ))
levels_up zero nodes = []
levels_up (suc n) nodes = nodes ∷ levels_up n (level_above nodes)

abbrev pub path_through : List (List (List ℕ)) → ℕ → List ℕ
path_through [] place = []
path_through (nodes ∷ above) place = beside nodes place ++ path_through above (place / 2)
