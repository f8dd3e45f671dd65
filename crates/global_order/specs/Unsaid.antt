-- Where the numbers of a view stand for which a word may be due.
use Rattle.std.specs.Prelude.{◌≡◌, ◌⊎◌, ℕ, ◌≤◌, ◌<◌, Bool, true, false, List, is_some, nat_eq, if◌then◌else◌}
use Rattle.indexmap.specs.IndexMap.{get}
use Rattle.std.specs.HashSet.{contains}
use Rattle.protocol_rules.specs.declared.facts.OrderFact.{OrderFact}
use Rattle.protocol_rules.specs.Order.{offered}
use Rattle.global_order.specs.declared.pending.PendingNumbers.{PendingNumbers}
use Rattle.global_order.specs.declared.slots.Slot.{Slot}
use Rattle.global_order.specs.declared.choices.Choices.{Choices}
use Rattle.global_order.specs.Index.{Map, first_in, same_pair}
use Rattle.global_order.specs.Saying.{Places}

-- the number is among those that may be due
abbrev pub IsAmong : PendingNumbers → ℕ → Type 0
IsAmong pending s = ((pending.low ≤ s) × (s < pending.high)) ⊎ (pending.beyond ≤ s)

-- `there` says of which numbers of a view there are rows to say a word for, and `said` for which numbers the word was
-- said: each number of the view for which the word is still due lies from `low` to below `high`, or from `beyond` on
pub record HasPending (said there : ℕ → ℕ → Bool) (pending : PendingNumbers) : Type 0 where
  pub from_one : (1 ≤ pending.low) × (1 ≤ pending.beyond)
  pub apart : pending.high ≤ pending.beyond
  pub within : (s : ℕ) → 1 ≤ s → said pending.view s ≡ false → there pending.view s ≡ true → IsAmong pending s

-- all numbers from `end` on that may have been due may be due still
pub record LooksFrom (end : ℕ) (old new : PendingNumbers) : Type 0 where
  pub view : new.view ≡ old.view
  pub from_one : (1 ≤ old.low) × (1 ≤ old.beyond) → (1 ≤ new.low) × (1 ≤ new.beyond)
  pub apart : old.high ≤ old.beyond → new.high ≤ new.beyond
  pub within : (s : ℕ) → end ≤ s → IsAmong old s → IsAmong new s

-- the ranges are no narrower, and the number is in them, where it is one of the view
pub record IsNoted (v s : ℕ) (old new : PendingNumbers) : Type 0 where
  pub view : new.view ≡ old.view
  pub from_one : 1 ≤ old.low → 1 ≤ new.low
  pub beyond : new.beyond ≡ old.beyond
  pub apart : old.high ≤ old.beyond → new.high ≤ new.beyond
  pub low : new.low ≤ old.low
  pub high : old.high ≤ new.high
  pub within : v ≡ old.view → 1 ≤ s → IsAmong new s

-- all numbers of a view
abbrev pub whole_view : ℕ → PendingNumbers
whole_view view = record { view = view; low = 1; high = 0; beyond = 1 }

-- all numbers, where the view is the pending one
abbrev pub with_view : ℕ → PendingNumbers → PendingNumbers
with_view v pending = if nat_eq v pending.view then whole_view v else pending

-- the word was said for the number of the view
abbrev pub said_in : Places → ℕ → ℕ → Bool
said_in places v s = contains same_pair places (v, s)

-- rows are offered, or held as prepared
abbrev pub offers_rows : List OrderFact → ℕ → ℕ → Bool
offers_rows facts v s = is_some (offered facts v s)

abbrev pub holds_prepared : Map (ℕ × ℕ) Slot → ℕ → ℕ → Bool
holds_prepared slots v s = is_some (first_in (get same_pair slots (v, s)))

-- all numbers for which commits are due
abbrev pub HasPendingCommits : (ℕ → ℕ → Bool) → Choices → Type 0
HasPendingCommits said choices = HasPending said (holds_prepared choices.prepared) choices.pending
