-- Which part of a master says words of which kinds, by the kinds' numbers.
use Rattle.std.specs.Prelude.{ℕ, Bool, List, [], ◌∷◌, nat_eq}
use Rattle.std.specs.List.{list_any}
use Rattle.message_types.specs.declared.body.Body.{Body}
use Rattle.message_types.specs.Kinds.{kind_number}

-- the word is of one of these kinds
abbrev pub is_of : List ℕ → Body → Bool
is_of kinds word = list_any (nat_eq (kind_number word)) kinds

-- requests and acknowledgements
abbrev pub preordering : List ℕ
preordering = 2 ∷ 3 ∷ []

abbrev pub summing : List ℕ
summing = 4 ∷ []

abbrev pub offering : List ℕ
offering = 5 ∷ []

-- prepares, commits and marks
abbrev pub ordering : List ℕ
ordering = 6 ∷ 7 ∷ 21 ∷ []

-- pings, pongs, round trips, reports and bounds of turnaround, suspicions
abbrev pub measuring : List ℕ
measuring = 8 ∷ 9 ∷ 10 ∷ 11 ∷ 12 ∷ 13 ∷ []

-- reports and new views
abbrev pub changing_views : List ℕ
changing_views = 14 ∷ 15 ∷ []

abbrev pub asking : List ℕ
asking = 16 ∷ 18 ∷ []

abbrev pub giving : List ℕ
giving = 17 ∷ 19 ∷ []

abbrev pub vouching : List ℕ
vouching = 20 ∷ []
