-- The whole lines of a text, and texts without a line feed. (This project's own.)
use Rattle.std.specs.Prelude.{ℕ, ◌==◌, Bool, not, if◌then◌else◌, List, [], ◌∷◌}
use Rattle.std.specs.List.{list_all}

-- a byte before what the whole lines behind it are: it is in a line if one of them is, or if it ends one
abbrev pub before_lines : ℕ → List ℕ → List ℕ
before_lines b [] = if b == 10 then b ∷ [] else []
before_lines b (c ∷ more) = b ∷ c ∷ more

-- The text up to its last line feed and with it: nothing of a text that has none.
abbrev pub whole_lines : List ℕ → List ℕ
whole_lines [] = []
whole_lines (b ∷ rest) = before_lines b (whole_lines rest)

-- no byte is a line feed
abbrev pub has_no_feed : List ℕ → Bool
has_no_feed text = list_all (λ b. not (b == 10)) text
