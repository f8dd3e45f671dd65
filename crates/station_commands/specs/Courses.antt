-- How far a call of the command came, and why it ended so. (This project's own.)
use Rattle.std.specs.Prelude.{◌≡◌, ℕ, true, false, List, Option, Some, Result, Ok, Err}
use Rattle.scenario_file.specs.Reading.{Contents, with_held}
use Rattle.scenario_file.specs.declared.held.HeldKeys.{HeldKeys}
use Rattle.script_grammar.specs.declared.fault.LineRefusal.{LineRefusal}
use Rattle.script_grammar.specs.Names.{correct_in, who_of}
use Rattle.command_ends.specs.Ended.{ErrorSink}
use Rattle.command_ends.specs.declared.refusal.Refusal.{Refusal}
use Rattle.command_ends.specs.declared.refusal.Refusal.TheVariants as ends
use Rattle.command_words.specs.declared.read.WordsAnswer.{WordsAnswer}
use Rattle.command_words.specs.declared.read.WordsAnswer.TheVariants as words
use Rattle.station_words.specs.Wanted.{Wanted, is_taken, wanted_in}
use Rattle.station_commands.specs.declared.refusal.StationRefusal.{StationRefusal}
use Rattle.station_commands.specs.declared.refusal.StationRefusal.TheVariants as refusal
use Rattle.station_commands.specs.Refusals.{Finishes}
use Rattle.station_commands.specs.Opening.{IsScenarioOf, NoScenario}
use Rattle.station_commands.specs.Holding.{Holds, HoldsNone}
use Rattle.station_commands.specs.Lives.{LifeCause, PutsNothing, Reach}

-- what each file holds, and its counts of faults before and after
pub record Shelf : Type 0 where
  pub held : List ℕ → Option (List ℕ)
  pub faults_before : List ℕ → ℕ
  pub faults_after : List ℕ → ℕ

abbrev pub shelf_of : (List ℕ → Option (List ℕ)) → (List ℕ → ℕ) → (List ℕ → ℕ) → Shelf
shelf_of held faults_before faults_after =
    record { held = held; faults_before = faults_before; faults_after = faults_after }

abbrev pub words_refusal : WordsAnswer → Refusal
words_refusal words.Usage = ends.Usage
words_refusal words.Want = ends.Memory

-- the words ask for this station
pub record Asks (words : List (List ℕ)) (asked : Wanted) : Type 0 where
  pub taken : is_taken words ≡ true
  pub is : wanted_in words ≡ Some asked

-- It ended with this refusal before the file that is kept was touched, and nothing was put out. `Stays` says that the file
-- stays as it is.
pub record EndsBefore (Stays : Type 0) (reach : Reach) (why : StationRefusal)
    (result : Result (Unit {0}) StationRefusal) : Type 0 where
  pub is : result ≡ Err why
  pub untouched : Stays
  pub silent : PutsNothing reach

-- In the scenario that was found: the name is that of no correct actor, or memory was wanted, or the files of keys give none,
-- or this actor lived, with the keys that it holds.
pub data InScenario (Stays : Type 0) (c : Contents) (asked : Wanted) (shelf : Shelf) (reach : Reach)
    (result : Result (Unit {0}) StationRefusal) : Type 0 where
  no_actor : (e : LineRefusal) → correct_in (who_of c) asked.actor ≡ Err e →
      EndsBefore Stays reach (refusal.Known ends.Usage) result → InScenario Stays c asked shelf reach result
  no_memory : EndsBefore Stays reach (refusal.Known ends.Memory) result → InScenario Stays c asked shelf reach result
  no_keys : (actor : ℕ) (why : StationRefusal) → correct_in (who_of c) asked.actor ≡ Ok actor
      → HoldsNone c asked.actor shelf.held shelf.faults_before shelf.faults_after why asked.keys
      → EndsBefore Stays reach why result → InScenario Stays c asked shelf reach result
  life : (actor : ℕ) (keys : Option HeldKeys) → correct_in (who_of c) asked.actor ≡ Ok actor
      → Holds c asked.actor shelf.held asked.keys keys → LifeCause (with_held c keys) actor asked.keep reach result →
      InScenario Stays c asked shelf reach result

-- The words are no station's, or memory was wanted; or the scenario that they name isn't one; or it is found, and what comes
-- then is told by it.
pub data Course (Stays : Type 0) (words : List (List ℕ)) (shelf : Shelf) (reach : Reach)
    (result : Result (Unit {0}) StationRefusal) : Type 0 where
  no_words : is_taken words ≡ false → EndsBefore Stays reach (refusal.Known ends.Usage) result →
      Course Stays words shelf reach result
  no_memory : EndsBefore Stays reach (refusal.Known ends.Memory) result → Course Stays words shelf reach result
  no_scenario : (asked : Wanted) (why : Refusal) → Asks words asked
      → NoScenario asked.keys (shelf.held asked.scenario) (shelf.faults_before asked.scenario)
      (shelf.faults_after asked.scenario) asked.scenario why
      → EndsBefore Stays reach (refusal.Known why) result → Course Stays words shelf reach result
  in_scenario : (asked : Wanted) (c : Contents) → Asks words asked
      → IsScenarioOf asked.keys (shelf.held asked.scenario) c → InScenario Stays c asked shelf reach result →
      Course Stays words shelf reach result

-- A call ended in one way, for its cause, with its status and line.
pub record StationEnds (Stays : Type 0) (words : List (List ℕ)) (shelf : Shelf) (reach : Reach) (err : ErrorSink)
    (status : ℕ) : Type 0 where
  pub result : Result (Unit {0}) StationRefusal
  pub course : Course Stays words shelf reach result
  pub finish : Finishes result err status
