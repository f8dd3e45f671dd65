use Rattle.run_questions.proofs.PrintedAreParts.{parts_are_printed}
use Rattle.run_questions.proofs.parts.laws.parts_are_printed.Goals as goal

pub returns : goal.returns
returns c = parts_are_printed
