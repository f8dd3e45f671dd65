-- The scenario's file is all that the course asks for, and its last step gives the own key of the name's actor. A refusal of
-- the file is that of the command.
use Rattle.std.proofs.Common.{[], ◌∷◌, refl, sym}
use Rattle.scenario_file.specs.Reading.{contents}
use Rattle.run_commands.specs.Keys.{own_key_in}
use Rattle.run_commands.specs.Reading.{with_scenario}
use Rattle.run_commands.specs.Course.{KeyCourse, or_usage}
use Rattle.run_commands.proofs.Openings.{after-open, open-refused, made-now}
use Rattle.run_commands.proofs.scripted.key.Goals as goal

pub returns-in-Ok-clause-cause : goal.returns-in-Ok-clause-cause
returns-in-Ok-clause-cause g c =
    after-open (KeyCourse c.args.scenario.now c.args.actor.now) _ _ _ _ _ [] c.args.scenario.now with_scenario contents
    c.in-Ok.scenario c.key_of.result refl c.in-Ok.ensures.cause c.open_scenario.ensures.kept
    c.in-Ok.ensures.file_faults
    (λ first one. made-now (KeyCourse c.args.scenario.now c.args.actor.now) _ _ _ (first ∷ [])
    (or_usage (own_key_in (contents c.in-Ok.scenario) c.args.actor.now)) c.key_of.result
    (sym (one (λ d. or_usage (own_key_in d c.args.actor.now)))) c.key_of.ensures)

pub returns-in-Err-clause-cause : goal.returns-in-Err-clause-cause
returns-in-Err-clause-cause g c =
    open-refused (KeyCourse c.args.scenario.now c.args.actor.now) _ _ _ [] c.args.scenario.now with_scenario contents
    c.in-Err.refusal refl c.in-Err.ensures.cause
    (λ first w one. sym (one (λ d. or_usage (own_key_in d c.args.actor.now))))
