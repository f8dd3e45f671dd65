-- What the counts of an audit go by.
use Rattle.std.specs.Prelude.{◌≡◌, ◌≤◌, ◌^◌, ℕ, Bool, List, length}
use Rattle.std.specs.List.{list_all}
use Rattle.quorum_sets.specs.Masters.{has_master}
use Rattle.message_types.specs.Spelling.{body_fits}
use Rattle.history_rules.specs.Events.{Entry}
use Rattle.history_rules.specs.Setup.{Setup, own}

-- Every body said at these entries has a spelling, as each that an actor signs has.
abbrev pub are_spelled : List Entry → Bool
are_spelled history = list_all (λ e. list_all body_fits e.said) history

-- At most 2^32 of these entries are of each actor: as many as one bench takes, whatever all of them come to together.
-- (This project's own.)
abbrev pub AreFewEach : List Entry → Type 0
AreFewEach history = (actor : ℕ) → length (own history actor) ≤ 2 ^ 32

-- the setup has so many masters, and these of them are intruded
pub record HasMasters (masters : ℕ) (intruded : List ℕ) (w : Setup) : Type 0 where
  pub group : masters ≡ w.group.n
  pub masters_intruded : (master : ℕ) → has_master intruded master ≡ w.intruded master
