-- What is in a list, what holds of each of its members, and which lists begin it. (This project's own; by cases rather than
-- by places, as std's `Contains` and `All` go, since the laws over histories follow how lists are joined.)
use Rattle.std.specs.Prelude.{◌≡◌, List, ◌∷◌, ◌++◌}

-- x is one of the list
pub data IsIn {X : Type 0} (x : X) : List X → Type 0 where
  here : (rest : List X) → IsIn x (x ∷ rest)
  there : (y : X) (rest : List X) → IsIn x rest → IsIn x (y ∷ rest)

-- each member of xs is one of ys
abbrev pub Within : {X : Type 0} → List X → List X → Type 0
Within {X} xs ys = (x : X) → IsIn x xs → IsIn x ys

-- P holds of each member
abbrev pub Each : {X : Type 0} → (X → Type 0) → List X → Type 0
Each {X} P xs = (x : X) → IsIn x xs → P x

-- the first list begins the second
pub record Begins {X : Type 0} (beginning whole : List X) : Type 0 where
  pub rest : List X
  pub same : whole ≡ beginning ++ rest
