-- Lists on the way to one history. (This project's own.)
use Rattle.std.specs.Prelude.{◌≡◌, ◌<◌, ◌+◌, ◌^◌, ℕ, List, None, length}
use Rattle.scenario_file.specs.Reading.{Contents}
use Rattle.history_rules.specs.Events.{Entry}
use Rattle.printed_history.specs.declared.reading.SoFar.{SoFar}
use Rattle.printed_history.specs.Reading.{IsSoFar, contents_in}
use Rattle.joint_lists.specs.Joint.{AreStations, count}
use Rattle.joint_lists.specs.Joining.{HasJoined, left}
use Rattle.world_rules.specs.Scenarios.{setup_of}
use Rattle.joined_histories.specs.Order.{IsOrdered}

-- Lists on the way to one history: what is at hand is that of all stations of a scenario, of each of which so many entries
-- were joined; no entry more was added than is gone from the lists.
pub record IsAmid (c : Contents) (lists : List (List Entry)) (next : List ℕ) (r : SoFar) : Type 0 where
  pub is_so_far : IsSoFar r
  pub same : contents_in r ≡ c
  pub all : r.only ≡ None
  pub stations : AreStations c lists
  pub joined : HasJoined lists next r.history
  pub few : length r.history + left lists next ≡ count lists
  pub short : count lists < 2 ^ 32
  pub ordered : IsOrdered (setup_of c) lists r.history
