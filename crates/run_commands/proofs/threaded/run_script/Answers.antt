-- With the scenario known the course of a run asks for the script's file next. A script that is refused ends
-- it, and otherwise the words go on from what the file leads to.
use Rattle.std.proofs.Common.{[], ◌∷◌}
use Rattle.scenario_file.specs.Reading.{contents}
use Rattle.command_ends.proofs.Courses.{after-load}
use Rattle.run_commands.specs.Reading.{with_script}
use Rattle.run_commands.specs.Course.{RunCourse, RunEnds}
use Rattle.run_commands.specs.Told.{told_runs}
use Rattle.run_commands.proofs.Openings.{open-refused}
use Rattle.run_commands.proofs.Scripting.{script-first, script-second-refused}
use Rattle.run_commands.proofs.threaded.run_script.Goals as goal

pub returns-in-Ok-clause-cause : goal.returns-in-Ok-clause-cause
returns-in-Ok-clause-cause g c = λ first one.
    let r = g.R.Runs.readers in
    let asked = c.args.asked in
    let found = c.in-Ok.ensures.found in
    after-load (RunCourse (told_runs r) asked.scenario.now asked.script.now asked.words.now asked.turns) _ _ _ _ _
    (first ∷ []) asked.script.now found.0 c.run_words.result
    (script-first (told_runs r) (RunEnds (told_runs r) asked.turns) asked.scenario.now
    asked.script.now asked.words.now first
    (contents c.args.scenario.now) one) found.1 found.2 c.open_script.ensures.kept
    c.in-Ok.ensures.file_faults
    (c.run_words.ensures.cause first found.0 one found.3)

pub returns-in-Err-clause-cause : goal.returns-in-Err-clause-cause
returns-in-Err-clause-cause g c = λ first one.
    let r = g.R.Runs.readers in
    let asked = c.args.asked in
    let is = contents c.args.scenario.now in
    open-refused (RunCourse (told_runs r) asked.scenario.now asked.script.now asked.words.now asked.turns) _ _ _
    (first ∷ []) asked.script.now (with_script is) (λ script. script) c.in-Err.refusal
    (script-first (told_runs r) (RunEnds (told_runs r) asked.turns) asked.scenario.now
    asked.script.now asked.words.now first is one) c.in-Err.ensures.cause
    (λ second w two. script-second-refused (told_runs r) (RunEnds (told_runs r) asked.turns) asked.scenario.now
    asked.script.now asked.words.now
    first second is w one two)
