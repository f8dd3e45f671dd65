-- The table of a plant's points: each has a value within its bounds, which is read and set by the point's number. (This
-- project's own.)
use Rattle.std.specs.Prelude.{◌≡◌, ℕ, true, List, [], ◌∷◌, map, Option, ℤ, position}
use Rattle.std.specs.Str.{bytes_eq}
use Rattle.point_table.specs.declared.point.Point.{Point}
use Rattle.point_table.specs.Point.{is_within, IsUsable}

-- points, and the value that each has
pub record Table : Type 0 where
  pub points : List Point
  pub values : List ℤ

-- one value for each point, within its bounds
abbrev pub AreWithin : List Point → List ℤ → Type 0
AreWithin [] [] = Unit {0}
AreWithin [] (v ∷ vs) = ⊥
AreWithin (p ∷ ps) [] = ⊥
AreWithin (p ∷ ps) (v ∷ vs) = (is_within p v ≡ true) × AreWithin ps vs

-- each point is one that a scenario may give
abbrev pub AreUsable : List Point → Type 0
AreUsable [] = Unit {0}
AreUsable (p ∷ ps) = IsUsable p × AreUsable ps

-- the values before any reading
abbrev pub start_values : List Point → List ℤ
start_values points = map (λ p. p.start) points

-- the number of the first point with a name
abbrev pub point_named : List Point → List ℕ → Option ℕ
point_named points name = position (λ p. bytes_eq p.name name) points
