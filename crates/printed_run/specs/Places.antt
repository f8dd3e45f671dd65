-- Where the entries of a history stand in their actors' own lists. (This project's own.)
use Rattle.std.specs.Prelude.{◌≡◌, ℕ, List, [], ◌∷◌, ◌++◌, length}
use Rattle.scenario_file.specs.Reading.{Contents}
use Rattle.scenario_file.specs.Valid.{IsScenario}
use Rattle.history_rules.specs.Events.{Entry}
use Rattle.history_rules.specs.Setup.{own}
use Rattle.history_rules.specs.Legal.{IsLegal}
use Rattle.world_rules.specs.Scenarios.{setup_of}
use Rattle.world_history.specs.State.{BenchState}
use Rattle.world_history.specs.Benches.{AreBenches}

-- the places of these entries in their actors' own lists, `before` being the entries before them
abbrev pub places_from : List Entry → List Entry → List ℕ
places_from before [] = []
places_from before (e ∷ rest) = length (own before e.actor) ∷ places_from (before ++ e ∷ []) rest

-- A legal history is at hand with the benches of its actors and the places of its entries.
pub record IsAtHand (c : Contents) (history : List Entry) (benches : List BenchState) (places : List ℕ) : Type 0 where
  pub scenario : IsScenario c
  pub is_legal : IsLegal (setup_of c) history
  pub are_benches : AreBenches c history benches
  pub are_places : places ≡ places_from [] history
