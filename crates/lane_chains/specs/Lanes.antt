-- Eight computations side by side: each word is a vector of eight lanes, lane j of which is the word
-- of computation j.
use Rattle.std.specs.Prelude.{ℕ, List, [], ◌∷◌, map, slice_index, slice_index_or}

-- lane j of vector k
abbrev pub lane_at : List (List ℕ) → ℕ → ℕ → ℕ
lane_at x k j = slice_index (slice_index_or x k []) j

-- the eight words of computation j
abbrev pub lane : ℕ → List (List ℕ) → List ℕ
lane j x =
    lane_at x 0 j ∷ lane_at x 1 j ∷ lane_at x 2 j ∷ lane_at x 3 j
    ∷ lane_at x 4 j ∷ lane_at x 5 j ∷ lane_at x 6 j ∷ lane_at x 7 j ∷ []

-- the four words of identifier j
abbrev pub id_lane : ℕ → List (List ℕ) → List ℕ
id_lane j x = lane_at x 0 j ∷ lane_at x 1 j ∷ lane_at x 2 j ∷ lane_at x 3 j ∷ []

-- the words of block j
abbrev pub column : ℕ → List (List ℕ) → List ℕ
column j x = map (λ v. slice_index v j) x
