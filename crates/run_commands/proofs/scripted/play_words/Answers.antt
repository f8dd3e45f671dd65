-- With scenario and script known the file of words is the last that the course of a play asks for, and its last
-- step is the play's own text, which tells its history, or refusal.
use Rattle.std.proofs.Common.{[], ◌∷◌}
use Rattle.scenario_file.specs.Reading.{contents}
use Rattle.command_ends.proofs.Courses.{after-load}
use Rattle.run_commands.specs.Reading.{with_words}
use Rattle.run_commands.specs.Course.{ScriptedCourse}
use Rattle.run_commands.specs.Told.{PlayEnds}
use Rattle.run_commands.proofs.Openings.{open-refused}
use Rattle.run_commands.proofs.Playing.{play-now}
use Rattle.run_commands.proofs.Scripting.{script-second, script-third, script-third-refused}
use Rattle.run_commands.proofs.scripted.play_words.Goals as goal

pub returns-in-Ok-clause-cause : goal.returns-in-Ok-clause-cause
returns-in-Ok-clause-cause g c = λ name named first second one two.
    let r = g.R.Runs.readers in
    let found = c.in-Ok.ensures.found in
    let is = contents c.args.scenario.now in
    let next = ScriptedCourse r (PlayEnds r) name named c.args.words.now in
    after-load next _ _ _ _ _ (first ∷ second ∷ []) c.args.words.now found.0 c.play_text.result
    (script-second r (PlayEnds r) name named c.args.words.now first second is c.args.script.now one two)
    found.1 found.2 c.open_words.ensures.kept c.in-Ok.ensures.file_faults
    (play-now next _ _ _ (first ∷ second ∷ found.0 ∷ []) r is c.args.script.now c.in-Ok.words c.play_text.result
    (λ step ends. script-third r (PlayEnds r) name named c.args.words.now first second found.0 is c.args.script.now
    c.in-Ok.words step one two found.3 ends)
    c.play_text.ensures)

pub returns-in-Err-clause-cause : goal.returns-in-Err-clause-cause
returns-in-Err-clause-cause g c = λ name named first second one two.
    let r = g.R.Runs.readers in
    let is = contents c.args.scenario.now in
    open-refused (ScriptedCourse r (PlayEnds r) name named c.args.words.now) _ _ _
    (first ∷ second ∷ []) c.args.words.now (with_words is)
    (λ words. words) c.in-Err.refusal
    (script-second r (PlayEnds r) name named c.args.words.now first second is c.args.script.now one two)
    c.in-Err.ensures.cause
    (λ third w three. script-third-refused r (PlayEnds r) name named c.args.words.now first second third is
    c.args.script.now w one two three)
