-- The numbers of certificates, one after another.
use Rattle.std.specs.Prelude.{◌≡◌, ◌≤◌, ◌<◌, ◌⊎◌, ℕ, List, Option, Some, None, ◌||◌, nat_le, if◌then◌else◌}
use Rattle.plain_lists.specs.Lists.{IsIn}
use Rattle.message_types.specs.declared.ordering.Certificate.{Certificate}

-- the lesser of a number and one more, where that is above `at`
abbrev pub lesser : ℕ → Option ℕ → ℕ → Option ℕ
lesser at None s = if nat_le s at then None else Some s
lesser at (Some least) s = if nat_le s at || nat_le least s then Some least else Some s

-- the least number above `at` that has a certificate, none where there is none
abbrev pub IsNextNumber : List Certificate → ℕ → Option ℕ → Type 0
IsNextNumber all at None = (c : Certificate) → IsIn c all → c.s ≤ at
IsNextNumber all at (Some next) =
    (at < next) × ((c : Certificate) × IsIn c all × (c.s ≡ next))
    × ((c : Certificate) → IsIn c all → (c.s ≤ at) ⊎ (next ≤ c.s))
