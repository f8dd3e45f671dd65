-- The course of a run begins with the scenario's file. Where it is refused the course ends there, and otherwise
-- script, words and run go on from the scenario that it leads to.
use Rattle.std.proofs.Common.{[], refl}
use Rattle.scenario_file.specs.Reading.{contents}
use Rattle.command_ends.proofs.Courses.{after-load}
use Rattle.run_commands.specs.Reading.{with_scenario}
use Rattle.run_commands.specs.Course.{RunCourse, RunEnds}
use Rattle.run_commands.specs.Told.{told_runs}
use Rattle.run_commands.proofs.Openings.{open-refused}
use Rattle.run_commands.proofs.Scripting.{script-refused}
use Rattle.run_commands.proofs.threaded.run_in_range.Goals as goal

pub returns-in-Ok-clause-cause : goal.returns-in-Ok-clause-cause
returns-in-Ok-clause-cause g c =
    let asked = c.args.asked in
    let found = c.in-Ok.ensures.found in
    after-load (RunCourse (told_runs g.R.Runs.readers) asked.scenario.now asked.script.now asked.words.now asked.turns) _ _ _ _ _ []
    asked.scenario.now found.0 c.run_script.result
    refl found.1 found.2 c.open_scenario.ensures.kept c.in-Ok.ensures.file_faults
    (c.run_script.ensures.cause found.0 found.3)

pub returns-in-Err-clause-cause : goal.returns-in-Err-clause-cause
returns-in-Err-clause-cause g c =
    let asked = c.args.asked in
    open-refused (RunCourse (told_runs g.R.Runs.readers) asked.scenario.now asked.script.now asked.words.now asked.turns) _ _ _ []
    asked.scenario.now with_scenario contents c.in-Err.refusal refl c.in-Err.ensures.cause
    (λ first w one. script-refused (told_runs g.R.Runs.readers)
    (RunEnds (told_runs g.R.Runs.readers) asked.turns) asked.scenario.now asked.script.now asked.words.now
    first w one)
