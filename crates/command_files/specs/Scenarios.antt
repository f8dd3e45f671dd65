-- What the content of a scenario's file is: the scenario, or the refusal that its first fault counts as. One is read with its
-- seed, or, where its reader is to have only an own key, without. (This project's own.)
use Rattle.std.specs.Prelude.{◌≡◌, ℕ, List, ◌++◌, Result, Ok, Err, codes, if◌then◌else◌}
use Rattle.std.specs.Str.{bytes_eq, is_utf8}
use Rattle.scenario_file.specs.Reading.{Contents, contents, scenario_in}
use Rattle.scenario_file.specs.declared.scenario.Scenario.{Scenario}
use Rattle.scenario_file.specs.declared.refusal.ScenarioRefusal.{ScenarioRefusal}
use Rattle.scenario_file.specs.declared.refusal.ScenarioRefusal.TheVariants as scenario
use Rattle.command_ends.specs.declared.refusal.ScenarioFault.TheVariants as fault
use Rattle.command_ends.specs.declared.refusal.Refusal.{Refusal}
use Rattle.command_ends.specs.declared.refusal.Refusal.TheVariants as refusal

-- bytes that are no text are no scenario either
unfoldable pub scenario_at : List ℕ → Result Contents ScenarioRefusal
scenario_at bytes = if is_utf8 bytes then scenario_in bytes else Err scenario.BadToml

abbrev pub seed_name : List ℕ
seed_name = codes "seed"

-- the line that stands for the seed of a scenario that is read without one
abbrev pub zeros_line : List ℕ
zeros_line = codes "seed = \"0000000000000000000000000000000000000000000000000000000000000000\"\n"

-- A scenario without seed, by what its bytes are as they stand, and what they are behind the line of zeros: a seed that
-- stands in them counts as an unknown key, and another fault of theirs goes before.
abbrev pub without_seed : Result Contents ScenarioRefusal → Result Contents ScenarioRefusal →
    Result Contents ScenarioRefusal
without_seed (Ok c) zeros = Err (scenario.UnknownKey seed_name)
without_seed (Err (scenario.MissingKey name)) zeros =
    if bytes_eq name seed_name then zeros else Err (scenario.MissingKey name)
without_seed (Err e) zeros = Err e

unfoldable pub seedless_at : List ℕ → Result Contents ScenarioRefusal
seedless_at bytes = without_seed (scenario_at bytes) (scenario_at (zeros_line ++ bytes))

-- the refusal that tells of the seed, unless memory ran out
abbrev pub IsUnknownSeed : ScenarioRefusal → Type 0
IsUnknownSeed (scenario.UnknownKey name) = name ≡ seed_name
IsUnknownSeed scenario.Want = Unit {0}
IsUnknownSeed other = ⊥

abbrev pub scenario_refusal : ScenarioRefusal → Refusal
scenario_refusal scenario.BadToml = refusal.Scenario fault.BadToml
scenario_refusal (scenario.MissingKey name) = refusal.Scenario (fault.MissingKey name)
scenario_refusal (scenario.BadValue name) = refusal.Scenario (fault.BadValue name)
scenario_refusal (scenario.TooMany name) = refusal.Scenario (fault.TooMany name)
scenario_refusal (scenario.UnknownKey name) = refusal.Scenario (fault.UnknownKey name)
scenario_refusal scenario.Want = refusal.Memory

-- a refusal that the fault counts as
abbrev pub HasFault : Result Contents ScenarioRefusal → Refusal → Type 0
HasFault right why = (e : ScenarioRefusal) × (right ≡ Err e) × (why ≡ scenario_refusal e)

-- what was read, by what it is to be; want of memory alone is free
abbrev pub ReadCause : Result Contents ScenarioRefusal → Result Scenario Refusal → Type 0
ReadCause right (Ok read) = right ≡ Ok (contents read)
ReadCause right (Err refusal.Memory) = Unit {0}
ReadCause right (Err (refusal.Scenario why)) = HasFault right (refusal.Scenario why)
ReadCause right (Err other) = ⊥
