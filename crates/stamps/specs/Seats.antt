-- Stamps and their seats, as contracts see them. (This project's own.)
use Rattle.std.specs.Prelude.{◌≡◌, ℕ, List, [], ◌∷◌, length, count_by, nat_eq, nat_lt, if◌then◌else◌}
use Rattle.atomic_table.specs.Seated.{TableId}

-- which stamps: the table of the word that numbers are drawn from, and how many seats may be made
pub record Source : Type 0 where
  pub table : TableId
  pub seats : ℕ

-- A seat: the stamps that it is of, its number, how many seats were made (which the first seat alone counts; 0 in
-- another), the numbers of the seats that are in it, its own and those joined to it, and all numbers that these have
-- drawn.
pub record Drawer : Type 0 where
  pub of : Source
  pub number : ℕ
  pub made : ℕ
  pub numbers : List ℕ
  pub drawn : List ℕ

-- the seat that new stamps come with
abbrev pub first_seat : Source → Drawer
first_seat source = record { of = source; number = 0; made = 1; numbers = 0 ∷ []; drawn = [] }

-- a seat as it is split off, with this number
abbrev pub new_seat : Source → ℕ → Drawer
new_seat source number = record { of = source; number = number; made = 0; numbers = number ∷ []; drawn = [] }

-- all seats that were made are in this one
abbrev pub IsWhole : Drawer → Type 0
IsWhole seat = length seat.numbers ≡ seat.made

-- how often a number stands in a list
unfoldable pub times : ℕ → List ℕ → ℕ
times x xs = count_by (nat_eq x) xs

-- once for each number below n, and never for another
unfoldable pub once_below : ℕ → ℕ → ℕ
once_below n x = if nat_lt x n then 1 else 0

-- The list is of the numbers below n, each once, in some order.
pub record IsEachOnce (n : ℕ) (xs : List ℕ) : Type 0 where
  pub once : (x : ℕ) → times x xs ≡ once_below n x
  pub count : length xs ≡ n
