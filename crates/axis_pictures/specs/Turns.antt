-- What is told of the elements of a list in turn, where each leaves something behind for the next one.
use Rattle.std.specs.Prelude.{ℕ, ◌+◌, List, [], ◌∷◌, ◌++◌}

-- The text of each element is that of its place, of what was left and of itself, and so is what it leaves.
abbrev pub turns : {S X : Type 0} → (ℕ → S → X → List ℕ) → (ℕ → S → X → S) → ℕ → S → List X → List ℕ
turns text next place s [] = []
turns text next place s (x ∷ xs) = text place s x ++ turns text next (place + 1) (next place s x) xs
