-- One history of what stations kept. (This project's own.)
use Rattle.std.specs.Prelude.{◌≡◌, ℕ, List, Result, Ok, Err}
use Rattle.scenario_file.specs.Reading.{Contents}
use Rattle.history_rules.specs.Events.{Entry}
use Rattle.printed_history.specs.declared.histories.Replay.{Replay}
use Rattle.joint_lists.specs.Joint.{IsJoint}
use Rattle.joined_histories.specs.declared.refusal.JoinRefusal.{JoinRefusal}
use Rattle.world_rules.specs.Scenarios.{setup_of}
use Rattle.joined_histories.specs.Files.{Refuses, Given, files_in}
use Rattle.joined_histories.specs.Early.{EarlyOnlyWhereAllAre}

-- A history joins files: they are read, it is one of the lists that they tell, and what it takes before it is said could be
-- taken no later. So where any history of these lists has no forged word, this one has none (specs/Laws.antt).
pub record JoinsFiles (c : Contents) (files : List (List ℕ)) (history : List Entry) : Type 0 where
  pub given : Given
  pub read : files_in c files ≡ Ok given
  pub joint : IsJoint c given.lists history
  pub order : EarlyOnlyWhereAllAre (setup_of c) history

-- What files come to: a history that joins them, or their first fault.
abbrev pub Joins : Contents → List (List ℕ) → Result Replay JoinRefusal → Type 0
Joins c files (Ok replay) = JoinsFiles c files replay.history
Joins c files (Err why) = Refuses why (files_in c files)
