-- The scenario's file is all that the course asks for, and its last step gives the keys' text. A refusal of the
-- file is that of the command.
use Rattle.std.proofs.Common.{[], ◌∷◌, refl, sym}
use Rattle.scenario_file.specs.Reading.{contents}
use Rattle.run_commands.specs.Keys.{keys_text}
use Rattle.command_ends.specs.Steps.Step.{Gives}
use Rattle.run_commands.specs.Reading.{with_scenario}
use Rattle.run_commands.specs.Course.{KeysCourse}
use Rattle.run_commands.proofs.Openings.{after-open, open-refused, made-now}
use Rattle.run_commands.proofs.scripted.keys.Goals as goal

pub returns-in-Ok-clause-cause : goal.returns-in-Ok-clause-cause
returns-in-Ok-clause-cause g c =
    after-open (KeysCourse c.args.scenario.now) _ _ _ _ _ [] c.args.scenario.now with_scenario contents
    c.in-Ok.scenario c.keys_of.result refl c.in-Ok.ensures.cause c.open_scenario.ensures.kept
    c.in-Ok.ensures.file_faults
    (λ first one. made-now (KeysCourse c.args.scenario.now) _ _ _ (first ∷ [])
    (Gives (keys_text (contents c.in-Ok.scenario))) c.keys_of.result
    (sym (one (λ d. Gives (keys_text d)))) c.keys_of.ensures)

pub returns-in-Err-clause-cause : goal.returns-in-Err-clause-cause
returns-in-Err-clause-cause g c =
    open-refused (KeysCourse c.args.scenario.now) _ _ _ [] c.args.scenario.now with_scenario contents
    c.in-Err.refusal refl c.in-Err.ensures.cause
    (λ first w one. sym (one (λ d. Gives (keys_text d))))
