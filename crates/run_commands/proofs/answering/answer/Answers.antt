-- The course begins with the scenario's file. Where it is refused the course ends there, and otherwise the rest
-- of the course goes on from the scenario that the file leads to.
use Rattle.std.proofs.Common.{[], refl}
use Rattle.scenario_file.specs.Reading.{contents}
use Rattle.run_commands.specs.Reading.{with_scenario}
use Rattle.run_commands.specs.Course.{QuestionCourse}
use Rattle.run_commands.proofs.Openings.{after-open, open-refused}
use Rattle.run_commands.proofs.Posing.{question-refused}
use Rattle.run_commands.proofs.answering.answer.Goals as goal

pub returns-in-Ok-clause-cause : goal.returns-in-Ok-clause-cause
returns-in-Ok-clause-cause g c =
    after-open (QuestionCourse g.R.Runs.readers c.args.scenario.now c.args.history.now c.args.question) _ _ _ _ _ []
    c.args.scenario.now with_scenario contents c.in-Ok.scenario c.answer_over.result
    refl c.in-Ok.ensures.cause c.open_scenario.ensures.kept c.in-Ok.ensures.file_faults
    (λ first one. c.answer_over.ensures.cause c.args.scenario.now first one)

pub returns-in-Err-clause-cause : goal.returns-in-Err-clause-cause
returns-in-Err-clause-cause g c =
    open-refused (QuestionCourse g.R.Runs.readers c.args.scenario.now c.args.history.now c.args.question) _ _ _ []
    c.args.scenario.now with_scenario contents c.in-Err.refusal refl c.in-Err.ensures.cause
    (λ first w one. question-refused g.R.Runs.readers c.args.scenario.now c.args.history.now
    c.args.question first w one)
