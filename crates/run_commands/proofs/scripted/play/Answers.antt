-- The course of a play begins with the scenario's file. Where it is refused the course ends there, and
-- otherwise script, words and play go on from the scenario that the file holds.
use Rattle.std.proofs.Common.{[], refl}
use Rattle.scenario_file.specs.Reading.{contents}
use Rattle.command_ends.proofs.Courses.{after-load}
use Rattle.run_commands.specs.Reading.{with_scenario}
use Rattle.run_commands.specs.Course.{ScriptedCourse}
use Rattle.run_commands.specs.Told.{PlayEnds}
use Rattle.run_commands.proofs.Openings.{open-refused}
use Rattle.run_commands.proofs.Scripting.{script-refused}
use Rattle.run_commands.proofs.scripted.play.Goals as goal

pub returns-in-Ok-clause-cause : goal.returns-in-Ok-clause-cause
returns-in-Ok-clause-cause g c =
    let r = g.R.Runs.readers in
    let found = c.in-Ok.ensures.found in
    after-load (ScriptedCourse r (PlayEnds r) c.args.scenario.now c.args.script.now c.args.words.now) _ _ _ _ _ []
    c.args.scenario.now found.0 c.play_script.result
    refl found.1 found.2 c.open_scenario.ensures.kept c.in-Ok.ensures.file_faults
    (c.play_script.ensures.cause c.args.scenario.now found.0 found.3)

pub returns-in-Err-clause-cause : goal.returns-in-Err-clause-cause
returns-in-Err-clause-cause g c =
    let r = g.R.Runs.readers in
    open-refused (ScriptedCourse r (PlayEnds r) c.args.scenario.now c.args.script.now c.args.words.now) _ _ _ []
    c.args.scenario.now with_scenario contents c.in-Err.refusal refl c.in-Err.ensures.cause
    (λ first w one. script-refused r (PlayEnds r) c.args.scenario.now c.args.script.now c.args.words.now first w one)
