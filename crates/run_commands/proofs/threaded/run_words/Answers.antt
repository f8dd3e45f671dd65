-- With scenario and script known the file of words is the last that the course of a run asks for, and its last
-- step gives the text of one of the runs that there may be.
use Rattle.std.proofs.Common.{[], ◌∷◌}
use Rattle.scenario_file.specs.Reading.{contents}
use Rattle.command_ends.proofs.Courses.{after-load}
use Rattle.run_commands.specs.Reading.{with_words}
use Rattle.run_commands.specs.Course.{RunCourse, RunEnds}
use Rattle.run_commands.specs.Told.{told_runs}
use Rattle.run_commands.proofs.Openings.{open-refused}
use Rattle.run_commands.proofs.Scripting.{script-second, script-third, script-third-refused}
use Rattle.run_commands.proofs.Threading.{run-now, run-faults}
use Rattle.run_commands.proofs.threaded.run_words.Goals as goal

pub returns-in-Ok-clause-cause : goal.returns-in-Ok-clause-cause
returns-in-Ok-clause-cause g c = λ first second one two.
    let r = g.R.Runs.readers in
    let asked = c.args.asked in
    let found = c.in-Ok.ensures.found in
    let is = contents c.args.scenario.now in
    let next = RunCourse (told_runs r) asked.scenario.now asked.script.now asked.words.now asked.turns in
    after-load next _ _ _ _ _ (first ∷ second ∷ []) asked.words.now found.0 c.run_text.result
    (script-second (told_runs r) (RunEnds (told_runs r) asked.turns) asked.scenario.now
    asked.script.now asked.words.now
    first second is c.args.script.now one two) found.1 found.2 c.open_words.ensures.kept
    c.in-Ok.ensures.file_faults
    (run-now next _ _ _ (first ∷ second ∷ found.0 ∷ []) r asked.turns is c.args.script.now
    c.in-Ok.words c.run_text.result
    (λ step gives. script-third (told_runs r) (RunEnds (told_runs r) asked.turns) asked.scenario.now
    asked.script.now asked.words.now
    first second found.0 is c.args.script.now c.in-Ok.words step one two found.3 gives)
    c.run_text.ensures)

pub returns-in-Err-clause-cause : goal.returns-in-Err-clause-cause
returns-in-Err-clause-cause g c = λ first second one two.
    let r = g.R.Runs.readers in
    let asked = c.args.asked in
    let is = contents c.args.scenario.now in
    open-refused (RunCourse (told_runs r) asked.scenario.now asked.script.now asked.words.now asked.turns) _ _ _
    (first ∷ second ∷ []) asked.words.now (with_words is) (λ words. words) c.in-Err.refusal
    (script-second (told_runs r) (RunEnds (told_runs r) asked.turns) asked.scenario.now
    asked.script.now asked.words.now
    first second is c.args.script.now one two) c.in-Err.ensures.cause
    (λ third w three. script-third-refused (told_runs r) (RunEnds (told_runs r) asked.turns) asked.scenario.now
    asked.script.now asked.words.now
    first second third is c.args.script.now w one two three)

pub returns-in-Ok-clause-file_faults : goal.returns-in-Ok-clause-file_faults
returns-in-Ok-clause-file_faults g c =
    run-faults g.R.Runs.readers c.args.asked.turns (contents c.args.scenario.now) c.args.script.now c.in-Ok.words
    (g.F.Files.faults c.args.files.now)
    (g.F.Files.faults c.open_words.new.files) c.run_text.result c.run_text.ensures c.in-Ok.ensures.file_faults
