-- What files come to, and the order of a joint history. (This project's own.)
use Rattle.std.specs.Prelude.{◌≡◌, ℕ, List, Ok}
use Rattle.scenario_file.specs.Reading.{Contents}
use Rattle.history_rules.specs.Events.{Entry}
use Rattle.history_rules.specs.Counts.{forged}
use Rattle.world_rules.specs.Scenarios.{setup_of}
use Rattle.joint_lists.specs.Joint.{IsJoint}
use Rattle.joined_histories.specs.Files.{Given, files_in}
use Rattle.joined_histories.specs.Told.{AreTold}
use Rattle.joined_histories.specs.Early.{NothingEarly, EarlyOnlyWhereAllAre}

-- Where any history that joins the same lists takes nothing early, this one takes nothing early.
abbrev pub NothingEarlyWhereThatCanBe : Type 0
NothingEarlyWhereThatCanBe =
    (c : Contents) (lists : List (List Entry)) (history other : List Entry) → IsJoint c lists history →
    EarlyOnlyWhereAllAre (setup_of c) history → IsJoint c lists other → NothingEarly (setup_of c) other →
    NothingEarly (setup_of c) history

-- Where in any of them no word counts as forged, none does in this one.
abbrev pub NothingForgedWhereThatCanBe : Type 0
NothingForgedWhereThatCanBe =
    (c : Contents) (lists : List (List Entry)) (history other : List Entry) → IsJoint c lists history →
    EarlyOnlyWhereAllAre (setup_of c) history → IsJoint c lists other → forged (setup_of c) other ≡ 0 →
    forged (setup_of c) history ≡ 0

-- What is read of files is what they tell.
abbrev pub FilesAreTold : Type 0
FilesAreTold = (c : Contents) (files : List (List ℕ)) (given : Given) → files_in c files ≡ Ok given → AreTold c files given
