-- What holds of lists of single actors. (This project's own.)
use Rattle.std.specs.Prelude.{◌≡◌, ℕ, ◌<◌, List, length}
use Rattle.scenario_file.specs.Reading.{Contents}
use Rattle.history_rules.specs.Events.{Event, Entry}
use Rattle.history_rules.specs.Setup.{own}
use Rattle.history_rules.specs.Keeping.{is_halted}
use Rattle.history_rules.specs.Legal.{says_in, Stands, IsLegalEntry}
use Rattle.world_rules.specs.Scenarios.{setup_of}
use Rattle.joint_lists.specs.Stations.{IsStation}
use Rattle.joint_lists.specs.Plain.{without_place, AreTheSame}
use Rattle.joint_lists.specs.Joining.{joined_entry}

-- After two lists of an actor that are the same but for stamps, and for where frames were said, the actor says the same at
-- the same event, is halted after both or neither, and the same events are of its role.
pub record GoByTheSame (c : Contents) (actor : ℕ) (xs ys : List Entry) : Type 0 where
  pub words : (event other : Event) → without_place event ≡ without_place other →
      says_in (setup_of c) actor xs event ≡ says_in (setup_of c) actor ys other
  pub halted : is_halted (setup_of c) actor xs ≡ is_halted (setup_of c) actor ys
  pub roles : (event other : Event) → without_place event ≡ without_place other →
      (setup_of c).fits actor event ≡ (setup_of c).fits actor other

abbrev pub SameEntriesGoTheSame : Type 0
SameEntriesGoTheSame = (c : Contents) (actor : ℕ) (xs ys : List Entry) → AreTheSame xs ys → GoByTheSame c actor xs ys

-- In whatever order lists are joined, the next entry of an actor may come: behind any history in which the actor's own
-- entries are those before it, with its frame from any stamp of that history.
abbrev pub NextMayJoin : Type 0
NextMayJoin =
    (c : Contents) (actor : ℕ) (history list before : List Entry) (e : Entry) (stamp place : ℕ) → IsStation c actor list →
    Stands list before e → AreTheSame (own history actor) before → (0 < length history → stamp < length history) →
    IsLegalEntry (setup_of c) history (joined_entry history stamp place e)
