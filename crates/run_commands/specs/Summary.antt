-- The summary of a run: the lines of its printed text that tell of a whole actor or of the whole run. (This project's
-- own.)
use Rattle.std.specs.Prelude.{ℕ, ◌==◌, nat_eq, Bool, List, [], ◌∷◌, ◌++◌, codes, if◌then◌else◌}
use Rattle.std.specs.List.{flat_map, list_any, slice_split, starts_with}

-- the words that such lines begin with
abbrev pub heads : List (List ℕ)
heads = codes "spire" ∷ codes "master" ∷ codes "proxy" ∷ codes "screen" ∷ codes "audit"
    ∷ codes "agree" ∷ codes "history" ∷ []

abbrev pub sums_up : List ℕ → Bool
sums_up line = list_any (λ head. starts_with nat_eq line head) heads

-- such a line with its line feed, and of other lines nothing
unfoldable pub summary_line : List ℕ → List ℕ
summary_line line = if sums_up line then line ++ codes "\n" else []

unfoldable pub summary : List ℕ → List ℕ
summary text = flat_map summary_line (slice_split (λ byte. byte == 10) text)
