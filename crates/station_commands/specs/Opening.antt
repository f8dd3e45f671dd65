-- A station's scenario and its actor, as the words name them. (This project's own.)
use Rattle.std.specs.Prelude.{◌≡◌, ◌≤◌, ◌<◌, ℕ, List, Option, None, Some, IfSome, Result, Ok, Err, length}
use Rattle.outside.specs.Faults.{HasRisen}
use Rattle.scenario_file.specs.Reading.{Contents, contents}
use Rattle.scenario_file.specs.declared.scenario.Scenario.{Scenario}
use Rattle.scenario_file.specs.declared.refusal.ScenarioRefusal.{ScenarioRefusal}
use Rattle.script_grammar.specs.declared.fault.LineRefusal.{LineRefusal}
use Rattle.script_grammar.specs.Names.{correct_in, who_of}
use Rattle.command_ends.specs.Calls.{IsContent}
use Rattle.command_ends.specs.declared.limits.TheConstants.{MOST_BYTES}
use Rattle.command_ends.specs.declared.refusal.Refusal.{Refusal}
use Rattle.command_ends.specs.declared.refusal.Refusal.TheVariants as refusal
use Rattle.command_files.specs.Scenarios.{HasFault, scenario_at, seedless_at}

-- the scenario of bytes: with its seed, or without it where the words name the files of keys
abbrev pub read_by : Option (List ℕ × List ℕ) → List ℕ → Result Contents ScenarioRefusal
read_by None bytes = scenario_at bytes
read_by (Some files) bytes = seedless_at bytes

-- what a file holds, where it tells so, and no more than is read
abbrev pub IsLoaded : Option (List ℕ) → List ℕ → Type 0
IsLoaded held content = IsContent held content × (length content ≤ MOST_BYTES)

-- the file isn't too long, and has this scenario
abbrev pub IsScenarioOf : Option (List ℕ × List ℕ) → Option (List ℕ) → Contents → Type 0
IsScenarioOf keys held c = (content : List ℕ) × IsLoaded held content × (read_by keys content ≡ Ok c)

-- Why a file of this name isn't loaded, by its counts of faults before and after. Want of memory alone is free.
abbrev pub NotLoaded : Option (List ℕ) → ℕ → ℕ → List ℕ → Refusal → Type 0
NotLoaded held before after name (refusal.Fault named) = (named ≡ name) × HasRisen before after
NotLoaded held before after name (refusal.TooLong named) =
    (named ≡ name) × IfSome held (λ content. MOST_BYTES < length content)
NotLoaded held before after name refusal.Memory = Unit {0}
NotLoaded held before after name other = ⊥

-- Why it gives no scenario: it isn't loaded, or its first fault is this one.
abbrev pub NoScenario : Option (List ℕ × List ℕ) → Option (List ℕ) → ℕ → ℕ → List ℕ → Refusal → Type 0
NoScenario keys held before after name (refusal.Scenario why) =
    (content : List ℕ) × IsLoaded held content × HasFault (read_by keys content) (refusal.Scenario why)
NoScenario keys held before after name other = NotLoaded held before after name other

abbrev pub ScenarioCause : Option (List ℕ × List ℕ) → Option (List ℕ) → ℕ → ℕ → List ℕ → Result Scenario Refusal
    → Type 0
ScenarioCause keys held before after name (Ok read) = IsScenarioOf keys held (contents read)
ScenarioCause keys held before after name (Err why) = NoScenario keys held before after name why

-- the number of the correct actor of a name; that there is none counts as a fault of the words
abbrev pub ActorCause : Contents → List ℕ → Result ℕ Refusal → Type 0
ActorCause c name (Ok actor) = correct_in (who_of c) name ≡ Ok actor
ActorCause c name (Err refusal.Usage) = (e : LineRefusal) × (correct_in (who_of c) name ≡ Err e)
ActorCause c name (Err refusal.Memory) = Unit {0}
ActorCause c name (Err other) = ⊥
