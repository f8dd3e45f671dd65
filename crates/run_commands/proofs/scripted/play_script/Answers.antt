-- With the scenario known the course of a play asks for the script's file next. A script that is refused ends
-- it, and otherwise the words go on from what the file holds.
use Rattle.std.proofs.Common.{[], ◌∷◌}
use Rattle.scenario_file.specs.Reading.{contents}
use Rattle.command_ends.proofs.Courses.{after-load}
use Rattle.run_commands.specs.Reading.{with_script}
use Rattle.run_commands.specs.Course.{ScriptedCourse}
use Rattle.run_commands.specs.Told.{PlayEnds}
use Rattle.run_commands.proofs.Openings.{open-refused}
use Rattle.run_commands.proofs.Scripting.{script-first, script-second-refused}
use Rattle.run_commands.proofs.scripted.play_script.Goals as goal

pub returns-in-Ok-clause-cause : goal.returns-in-Ok-clause-cause
returns-in-Ok-clause-cause g c = λ name first one.
    let r = g.R.Runs.readers in
    let found = c.in-Ok.ensures.found in
    after-load (ScriptedCourse r (PlayEnds r) name c.args.script.now c.args.words.now) _ _ _ _ _
    (first ∷ []) c.args.script.now found.0 c.play_words.result
    (script-first r (PlayEnds r) name c.args.script.now c.args.words.now first (contents c.args.scenario.now) one)
    found.1 found.2 c.open_script.ensures.kept c.in-Ok.ensures.file_faults
    (c.play_words.ensures.cause name c.args.script.now first found.0 one found.3)

pub returns-in-Err-clause-cause : goal.returns-in-Err-clause-cause
returns-in-Err-clause-cause g c = λ name first one.
    let r = g.R.Runs.readers in
    let is = contents c.args.scenario.now in
    open-refused (ScriptedCourse r (PlayEnds r) name c.args.script.now c.args.words.now) _ _ _
    (first ∷ []) c.args.script.now (with_script is) (λ script. script) c.in-Err.refusal
    (script-first r (PlayEnds r) name c.args.script.now c.args.words.now first is one) c.in-Err.ensures.cause
    (λ second w two. script-second-refused r (PlayEnds r) name c.args.script.now c.args.words.now
    first second is w one two)
