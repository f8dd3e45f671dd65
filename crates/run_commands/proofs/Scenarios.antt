-- What a scenario's content leads to.
use Rattle.std.proofs.Common.{◌≡◌, ℕ, List, Result, Ok, Err, ◌∙◌, ap, sym}
use Rattle.std.specs.Prelude.{IfOk}
use Rattle.scenario_file.specs.Reading.{Contents, contents}
use Rattle.scenario_file.specs.declared.scenario.Scenario.{Scenario}
use Rattle.command_ends.specs.Steps.{Step}
use Rattle.command_ends.specs.Steps.Step.{Refuses}
use Rattle.command_ends.specs.declared.refusal.Refusal.{Refusal}
use Rattle.command_ends.specs.declared.refusal.Refusal.TheVariants as refusal
use Rattle.command_files.specs.Scenarios.{HasFault, ReadCause, scenario_at, scenario_refusal}
use Rattle.run_commands.specs.Reading.{accepted, with_scenario}
use Rattle.run_commands.specs.Opened.{Leads, LeadsTo}

pub leads-on : (text : List ℕ) (c : Contents) → scenario_at text ≡ Ok c → LeadsTo with_scenario text c
leads-on text c is = λ onward. ap (λ a. accepted scenario_refusal a onward) is

leads-off : (text : List ℕ) (why : Refusal) → HasFault (scenario_at text) why → (onward : Contents → Step) →
    with_scenario text onward ≡ Refuses why
leads-off text why (e, is, named) = λ onward. ap (λ a. accepted scenario_refusal a onward) is ∙ ap Refuses (sym named)

-- a content leads to what was read of it
pub leads : (text : List ℕ) (result : Result Scenario Refusal) → ReadCause (scenario_at text) result →
    Leads with_scenario contents text result
leads text (Ok read) is = leads-on text (contents read) is
leads text (Err refusal.Memory) is = tt
leads text (Err (refusal.Scenario why)) is = leads-off text (refusal.Scenario why) is
leads text (Err refusal.Usage) is = absurd is
leads text (Err (refusal.Fault named)) is = absurd is
leads text (Err (refusal.TooLong named)) is = absurd is
leads text (Err (refusal.Script why line)) is = absurd is
leads text (Err (refusal.Words why line)) is = absurd is
leads text (Err (refusal.History why number)) is = absurd is
leads text (Err (refusal.Pieces line)) is = absurd is
leads text (Err (refusal.Keep named why)) is = absurd is
leads text (Err refusal.NotVerified) is = absurd is
leads text (Err (refusal.NoAnswer why)) is = absurd is
leads text (Err refusal.Output) is = absurd is

pub found : (text : List ℕ) (result : Result Scenario Refusal) → ReadCause (scenario_at text) result →
    IfOk result (λ scenario. scenario_at text ≡ Ok (contents scenario))
found text (Ok read) is = is
found text (Err why) is = tt
