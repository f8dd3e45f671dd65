-- The lists that the actors of a scenario made, each by itself, joined to one history. (This project's own.)
use Rattle.std.specs.Prelude.{◌≡◌, ℕ, ◌+◌, List, [], ◌∷◌, Option, Some, None, length, slice_get}
use Rattle.scenario_file.specs.Reading.{Contents}
use Rattle.history_rules.specs.Events.{Entry}
use Rattle.history_rules.specs.Setup.{own}
use Rattle.history_rules.specs.Legal.{IsLegal}
use Rattle.world_rules.specs.Scenarios.{setup_of, actors_in}
use Rattle.joint_lists.specs.Stations.{IsStation}
use Rattle.joint_lists.specs.Plain.{AreTheSame}

abbrev pub list_or_none : Option (List Entry) → List Entry
list_or_none None = []
list_or_none (Some list) = list

-- what an actor kept
abbrev pub kept_by : List (List Entry) → ℕ → List Entry
kept_by kept actor = list_or_none (slice_get kept actor)

-- how many entries were kept by all
abbrev pub count : List (List Entry) → ℕ
count [] = 0
count (list ∷ rest) = length list + count rest

-- one list for each actor, in the order of their numbers, each a station's; of an actor that kept nothing the empty one
pub record AreStations (c : Contents) (kept : List (List Entry)) : Type 0 where
  pub all : length kept ≡ actors_in c
  pub each : (actor : ℕ) → IsStation c actor (kept_by kept actor)

-- A history that joins them. It is legal, and each actor's own entries in it are those that it kept, in its order: none
-- is left out, none is added, and at each the same was taken and said. Only stamps are new, and where the frames that
-- were taken are said to come from.
pub record IsJoint (c : Contents) (kept : List (List Entry)) (history : List Entry) : Type 0 where
  pub legal : IsLegal (setup_of c) history
  pub each : (actor : ℕ) → AreTheSame (own history actor) (kept_by kept actor)
