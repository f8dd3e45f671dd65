-- Lists of entries that one actor could make, whatever the others do. (This project's own.)
use Rattle.std.specs.Prelude.{◌≡◌, ℕ, ◌+◌, ◌<◌, true, false, List, Some, length, nat_lt, slice_get}
use Rattle.std.specs.List.{list_all, flat_map}
use Rattle.history_rules.specs.Events.{Entry}
use Rattle.history_rules.specs.Setup.{Setup}
use Rattle.history_rules.specs.Keeping.{is_halted}
use Rattle.history_rules.specs.Legal.{says_in, TakesWell, Stands}
use Rattle.history_rules.specs.Counts.{stamped}

-- The actor could add the entry after these of its own: its stamp is above theirs, the actor wasn't halted, the event
-- is one of its role, a frame that it takes stands and bears a lower stamp, and what it says is what the rules make it
-- say.
pub record IsOwnEntry (w : Setup) (actor : ℕ) (before : List Entry) (e : Entry) : Type 0 where
  pub by : e.actor ≡ actor
  pub later : list_all (λ b. nat_lt b.stamp e.stamp) before ≡ true
  pub running : is_halted w actor before ≡ false
  pub role : w.fits actor e.event ≡ true
  pub taken : TakesWell w e.stamp e.event
  pub said : e.said ≡ says_in w actor before e.event

-- each entry of the list is one that the actor could add after those before it
pub record IsOwnHistory (w : Setup) (actor : ℕ) (list : List Entry) : Type 0 where
  pub entries : (before : List Entry) (e : Entry) → Stands list before e → IsOwnEntry w actor before e

-- one own history of each actor, in the order of their numbers
pub record AreOwnHistories (w : Setup) (lists : List (List Entry)) : Type 0 where
  pub all : length lists ≡ w.group.n + w.group.clients
  pub each : (actor : ℕ) (list : List Entry) → slice_get lists actor ≡ Some list → IsOwnHistory w actor list

-- each number below that of all entries is the stamp of just one of them
abbrev pub HasEachStampOnce : List (List Entry) → Type 0
HasEachStampOnce lists = (stamp : ℕ) → stamp < length (flat_map (λ list. list) lists) → length (stamped lists stamp) ≡ 1
