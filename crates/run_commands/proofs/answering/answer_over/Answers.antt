-- With the scenario known the course asks for the history's file next, and what the answer makes of it is the
-- last step. A file that can't be loaded ends the course.
use Rattle.std.proofs.Common.{[], ◌∷◌, subst}
use Rattle.scenario_file.specs.Reading.{contents}
use Rattle.command_ends.proofs.Courses.{after-load, load-failed}
use Rattle.run_commands.specs.Readers.{AnswerGives}
use Rattle.run_commands.specs.Course.{QuestionCourse}
use Rattle.run_commands.proofs.Openings.{made-now}
use Rattle.run_commands.proofs.Posing.{question-first, question-last, question-second, question-makes}
use Rattle.run_commands.proofs.answering.answer_over.Goals as goal

pub returns-in-Ok-clause-cause : goal.returns-in-Ok-clause-cause
returns-in-Ok-clause-cause g c = λ name first one.
    let r = g.R.Runs.readers in
    let is = contents c.args.scenario.now in
    let asked = c.args.question in
    let next = QuestionCourse r name c.args.history.now asked in
    let later = g.F.Files.held c.load.new.files in
    let after = g.F.Files.faults c.load.new.files in
    let text = c.in-Ok.text.items in
    after-load next (g.F.Files.held c.args.files.now) later (g.F.Files.faults c.args.files.now) after after
    (first ∷ []) c.args.history.now text c.answer_text.result
    (question-first r name c.args.history.now asked first is one) c.in-Ok.ensures.cause.0 c.in-Ok.ensures.cause.1
    c.load.ensures.kept c.in-Ok.ensures.file_faults
    (made-now next later after after (first ∷ text ∷ []) (question-last r is text asked) c.answer_text.result
    (question-second r name c.args.history.now asked first text is one)
    (question-makes r is text asked c.answer_text.result
    (subst (λ t. AnswerGives r is t asked c.answer_text.result) c.as_slice.ensures.value c.answer_text.ensures)))

pub returns-in-Err-clause-cause : goal.returns-in-Err-clause-cause
returns-in-Err-clause-cause g c = λ name first one.
    let r = g.R.Runs.readers in
    load-failed (QuestionCourse r name c.args.history.now c.args.question) (g.F.Files.held c.args.files.now)
    (g.F.Files.faults c.args.files.now)
    (g.F.Files.faults c.load.new.files) (first ∷ []) c.args.history.now c.in-Err.refusal
    (question-first r name c.args.history.now c.args.question first (contents c.args.scenario.now) one)
    c.in-Err.ensures.cause
