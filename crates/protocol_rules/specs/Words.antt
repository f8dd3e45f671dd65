-- Words on lists and numbers that the rules are made of.
use Rattle.std.specs.Prelude.{ℕ, zero, suc, Bool, List, [], ◌∷◌, ◌++◌, Option, Some, None, max, nat_eq, nat_le}
use Rattle.std.specs.Prelude.{filter, length, if◌then◌else◌}

-- the first value, where there is one, else the second
abbrev pub or_else : {X : Type 0} → Option X → Option X → Option X
or_else None other = other
or_else (Some x) other = Some x

-- What was met first as a list grew: `met` is asked of the list's beginnings, from the shortest on. So the
-- answer never changes once there is one. (`seen` is the beginning already asked.)
unfoldable pub first_met : {F X : Type 0} → (List F → Option X) → List F → List F → Option X
first_met met seen [] = met seen
first_met met seen (x ∷ rest) = or_else (met seen) (first_met met (seen ++ x ∷ []) rest)

-- what `f` gives of start, start + 1, .. up to the first number of which it gives nothing, at most `most` values
unfoldable pub run_from : {X : Type 0} → (ℕ → Option X) → ℕ → ℕ → List X
run_from f start zero = []
run_from f start (suc most) = elim (f start) [ None ↦ [] | Some x ↦ x ∷ run_from f (suc start) most ]

-- start, start + 1, .., as many as `count`
unfoldable pub numbers_from : ℕ → ℕ → List ℕ
numbers_from start zero = []
numbers_from start (suc count) = start ∷ numbers_from (suc start) count

-- the first of the values that none beats: a later value takes over only where it beats all before
abbrev pub best_from : {X : Type 0} → (X → X → Bool) → X → List X → X
best_from beats best [] = best
best_from beats best (x ∷ rest) = best_from beats (if beats x best then x else best) rest

unfoldable pub best_by : {X : Type 0} → (X → X → Bool) → List X → Option X
best_by beats [] = None
best_by beats (x ∷ rest) = Some (best_from beats x rest)

-- the greatest of the numbers, 0 where there are none
abbrev pub greatest_of : List ℕ → ℕ
greatest_of [] = 0
greatest_of (x ∷ rest) = max x (greatest_of rest)

-- the q-th greatest of the numbers: the greatest of them that q of them reach, 0 where there is none
abbrev pub greatest_reached : ℕ → List ℕ → ℕ
greatest_reached q numbers = greatest_of (filter (λ x. nat_le q (length (filter (λ y. nat_le x y) numbers))) numbers)

-- what `f` gives at the highest number below `bound` of which it gives something
unfoldable pub last_below : {X : Type 0} → (ℕ → Option X) → ℕ → Option X
last_below f zero = None
last_below f (suc bound) = or_else (f bound) (last_below f bound)

-- the first of several values
abbrev pub first_of_list : {X : Type 0} → List X → Option X
first_of_list [] = None
first_of_list (x ∷ rest) = Some x

-- the numbers in rising order
abbrev pub put_in_order : ℕ → List ℕ → List ℕ
put_in_order x [] = x ∷ []
put_in_order x (y ∷ rest) = if nat_le x y then x ∷ y ∷ rest else y ∷ put_in_order x rest

unfoldable pub in_order : List ℕ → List ℕ
in_order [] = []
in_order (x ∷ rest) = put_in_order x (in_order rest)

-- numbers in order, those that are equal once
unfoldable pub each_once : List ℕ → List ℕ
each_once [] = []
each_once (x ∷ []) = x ∷ []
each_once (x ∷ y ∷ rest) = if nat_eq x y then each_once (y ∷ rest) else x ∷ each_once (y ∷ rest)
