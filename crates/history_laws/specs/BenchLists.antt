-- Lists of entries that one actor's state is the replay of, whatever became of its keeper. (This project's own.)
use Rattle.std.specs.Prelude.{◌≡◌, ℕ, true, List, nat_lt}
use Rattle.std.specs.List.{list_all}
use Rattle.history_rules.specs.Events.{Entry}
use Rattle.history_rules.specs.Setup.{Setup}
use Rattle.history_rules.specs.Legal.{says_in, TakesWell, Stands}

-- The actor could add the entry after these of its own: its stamp is above theirs, the event is one of its role, a
-- frame that it takes stands and bears a lower stamp, and what it says is what the rules make it say.
pub record AddsEntry (w : Setup) (actor : ℕ) (before : List Entry) (e : Entry) : Type 0 where
  pub by : e.actor ≡ actor
  pub later : list_all (λ b. nat_lt b.stamp e.stamp) before ≡ true
  pub role : w.fits actor e.event ≡ true
  pub taken : TakesWell w e.stamp e.event
  pub said : e.said ≡ says_in w actor before e.event

-- each entry of the list is one that the actor could add after those before it
pub record IsBenchList (w : Setup) (actor : ℕ) (list : List Entry) : Type 0 where
  pub entries : (before : List Entry) (e : Entry) → Stands list before e → AddsEntry w actor before e
