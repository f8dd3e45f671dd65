-- A key and how many of its signatures were made.
use Rattle.std.specs.Prelude.{◌≤◌, ℕ, List, All}
use Rattle.ots_keys.specs.declared.parameters.Ots.{Ots}
use Rattle.tree_keys.specs.Trees.{IsMadeHeight}
use Rattle.hash_signatures.specs.Signatures.{Key}

pub record KeyUse : Type 0 where
  pub key : Key
  pub used : ℕ

abbrev pub key_from : List ℕ → List ℕ → List ℕ → Ots → Key
key_from seed id heights ots = record { seed = seed; id = id; heights = heights; ots = ots }

abbrev pub key_use : Key → ℕ → KeyUse
key_use key used = record { key = key; used = used }

-- keys are made with one to six levels
abbrev pub IsLevelCount : ℕ → Type 0
IsLevelCount n = (1 ≤ n) × (n ≤ 6)

abbrev pub HasMadeHeights : List ℕ → Type 0
HasMadeHeights heights = All IsMadeHeight heights
