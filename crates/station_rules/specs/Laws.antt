-- The laws of what a station makes of lines, over every scenario, whoever is intruded.
use Rattle.std.specs.Prelude.{◌≡◌, ℕ, ◌<◌, true, false, List, ◌++◌, Some, Ok, length}
use Rattle.message_types.specs.declared.signed.Signed.{Signed}
use Rattle.message_types.specs.declared.body.Body.{Body}
use Rattle.message_forms.specs.Forms.{frame_at}
use Rattle.scenario_file.specs.Reading.{Contents}
use Rattle.history_rules.specs.Events.{Entry, frame_taken}
use Rattle.history_rules.specs.Setup.{is_correct, stands}
use Rattle.world_rules.specs.Scenarios.{setup_of, actors_in}
use Rattle.run_lines.specs.declared.event_line.EventLine.TheVariants as line
use Rattle.printed_history.specs.Histories.{is_running}
use Rattle.joint_lists.specs.Stations.{IsStation}
use Rattle.station_lives.specs.Saying.{SaidBy}
use Rattle.station_rules.specs.Answers.{Asked, Start, answer, Work, after_lines}
use Rattle.station_rules.specs.Coming.{is_repeated, entry_given}

-- Whatever comes, a station stays one: so it acts for no other actor, and each of its entries is one that the rules allow,
-- with what they make its actor say.
abbrev pub AnsweredIsStation : Type 0
AnsweredIsStation =
    (c : Contents) (actor : ℕ) (list : List Entry) (asked : Asked) → IsStation c actor list →
    IsStation c actor (list ++ (answer c actor list asked).entries)

-- What is told is notes, and words of the station's entries with the one that is made.
abbrev pub AnswerIsSaid : Type 0
AnswerIsSaid =
    (c : Contents) (actor : ℕ) (list : List Entry) (asked : Asked) →
    SaidBy c (list ++ (answer c actor list asked).entries) (answer c actor list asked).told

-- The same of lines in turn.
abbrev pub LinesKeepStation : Type 0
LinesKeepStation =
    (c : Contents) (actor : ℕ) (work : Work) (lines : List (List ℕ)) → IsStation c actor work.list →
    IsStation c actor (after_lines c actor work lines).list

abbrev pub LinesAreSaid : Type 0
LinesAreSaid =
    (c : Contents) (actor : ℕ) (work : Work) (lines : List (List ℕ)) → SaidBy c work.list work.told →
    SaidBy c (after_lines c actor work lines).list (after_lines c actor work lines).told

-- A station of a correct actor that was started has an entry, whatever it did before.
abbrev pub StartedHasEntry : Type 0
StartedHasEntry =
    (c : Contents) (actor : ℕ) (list : List Entry) → actor < actors_in c → is_correct (setup_of c) actor ≡ true →
    0 < length (list ++ (answer c actor list Start).entries)

-- Where a station has an entry and its actor isn't halted, the bytes of a frame that stands and wasn't taken before make an
-- entry that takes it.
abbrev pub StandingFramesAreTaken : Type 0
StandingFramesAreTaken =
    (c : Contents) (actor : ℕ) (list : List Entry) (bytes : List ℕ) (frame : Signed Body) → 0 < length list →
    is_running (setup_of c) list actor ≡ true → frame_at bytes ≡ Ok frame → stands (setup_of c) frame ≡ true →
    is_repeated list (line.Frame bytes) ≡ false →
    (e : Entry) × ((entry_given c actor list (line.Frame bytes) ≡ Some e) × (frame_taken e.event ≡ Some frame))
