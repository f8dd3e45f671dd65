-- Counts of faults of files, outputs and keepers. (This project's own.)
use Rattle.std.specs.Prelude.{◌≡◌, ℕ, ◌<◌, ◌^◌, ◌-◌, ◌⊎◌}

-- A count of faults has risen in a call: it stands above what it was, or at its greatest value, past
-- which it can't go.
abbrev pub HasRisen : ℕ → ℕ → Type 0
HasRisen before after = (before < after) ⊎ (after ≡ 2 ^ 64 - 1)
