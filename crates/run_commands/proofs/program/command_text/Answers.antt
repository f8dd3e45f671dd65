-- A command that poses a question is that question's course over its scenario and its history, so the cause of the
-- answer is the command's.
use Rattle.std.proofs.Common.{sym}
use Rattle.command_words.specs.Wanted.{wanted}
use Rattle.run_commands.proofs.Posing.{question-cause}
use Rattle.run_commands.proofs.program.command_text.Goals as goal

pub returns-in-Some-clause-cause : goal.returns-in-Some-clause-cause
returns-in-Some-clause-cause g c =
    question-cause g.R.Runs.readers (wanted c.args.asked) (
      c.in-Some.scenario.now,
      c.in-Some.history.now,
      c.in-Some.question,
    )
    (g.F.Files.held c.args.files.now) (g.F.Files.faults c.args.files.now) (g.F.Files.faults c.answer.new.files)
    c.answer.result
    (sym c.in-Some.ensures) c.answer.ensures.cause
