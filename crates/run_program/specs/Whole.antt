-- The definitions that the program goes by: the one history of a script and words, the histories that a run in threads of
-- them may make, in which each actor's list goes turn by turn for what they give it, the history that a printed text
-- tells, the histories that join what stations kept, the text of a history and the history as that tells it, what is answered over one, and the request that parts
-- rebuild. (This project's own.)
use Rattle.std.specs.Prelude.{◌≡◌, ◌<◌, ◌^◌, ℕ, List, length}
use Rattle.scenario_file.specs.Reading.{Contents}
use Rattle.history_rules.specs.Events.{Entry}
use Rattle.history_rules.specs.Legal.{IsLegal}
use Rattle.world_rules.specs.Scenarios.{setup_of}
use Rattle.world_history.specs.State.{BenchState}
use Rattle.world_history.specs.Benches.{lists_of, AreBenches, AreOfAll}
use Rattle.history_rules.specs.Counts.{merged}
use Rattle.history_laws.specs.Own.{HasEachStampOnce}
use Rattle.run_scripts.specs.Making.{played}
use Rattle.replica_threads.specs.Courses.{inputs_given}
use Rattle.replica_threads.specs.Ended.{IsHistoryOf}
use Rattle.printed_history.specs.Histories.{history_in}
use Rattle.printed_run.specs.Printed.{text_of}
use Rattle.printed_run.specs.Tellable.{as_told}
use Rattle.joined_histories.specs.Files.{files_in}
use Rattle.joined_histories.specs.Joins.{JoinsFiles}
use Rattle.run_commands.specs.Readers.{Readers, Tells}
use Rattle.run_program.specs.Asked.{answered, requested}
use Rattle.run_program.specs.Faults.{played_or_fault, history_or_fault}
use Rattle.run_program.specs.Merges.{first_fault}

-- what the program reads and makes, by the names of its definitions
abbrev pub program_readers : Readers
program_readers = record {
  played = λ c lines sayings. played_or_fault (played (record { scenario = c; sayings = sayings }) lines);
  may_run = λ c lines sayings turns history. IsHistoryOf c (inputs_given c lines sayings) turns history;
  history_in = λ c text. history_or_fault (history_in c text);
  may_join = JoinsFiles;
  join_fault = λ c kept. first_fault (files_in c kept);
  text_of = text_of;
  as_told = as_told;
  answered = answered;
  rebuilt = requested;
}

-- the text of the history, which is read again as it
abbrev pub IsTextOf : Contents → List Entry → List ℕ → Type 0
IsTextOf c history text = (text ≡ text_of c history) × Tells program_readers c history

-- the benches of all actors as they are after a legal history
pub record AreAfter (c : Contents) (history : List Entry) (benches : List BenchState) : Type 0 where
  pub legal : IsLegal (setup_of c) history
  pub short : length history < 2 ^ 32
  pub are_benches : AreBenches c history benches

-- Benches whose history can be printed: those after a legal history, or one of each actor, with a list that it could make
-- alone. In both each stamp is there once, and there are not too many entries.
pub data CanBePrinted (c : Contents) (benches : List BenchState) : Type 0 where
  after : (history : List Entry) → AreAfter c history benches → CanBePrinted c benches
  alone : AreOfAll c benches → HasEachStampOnce (lists_of benches) → length (merged (lists_of benches)) < 2 ^ 32 →
      CanBePrinted c benches
