-- One actor of a scenario by itself. (This project's own.)
use Rattle.std.specs.Prelude.{◌≡◌, ℕ, Bool, true, List, nat_eq}
use Rattle.std.specs.List.{list_all}
use Rattle.scenario_file.specs.Reading.{Contents}
use Rattle.history_rules.specs.Events.{Entry}
use Rattle.history_rules.specs.Legal.{IsLegal}
use Rattle.world_rules.specs.Scenarios.{setup_of}

-- all entries are the actor's
abbrev pub acts_alone : ℕ → List Entry → Bool
acts_alone actor list = list_all (λ e. nat_eq e.actor actor) list

-- What a station has done: a legal history of its scenario in which its actor alone acts. Its stamps are its own, and a
-- frame that it took counts as said at the entry before.
pub record IsStation (c : Contents) (actor : ℕ) (list : List Entry) : Type 0 where
  pub legal : IsLegal (setup_of c) list
  pub alone : acts_alone actor list ≡ true
