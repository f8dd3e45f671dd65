use Rattle.run_questions.proofs.PrintedRebuild.{printed_lines_rebuild}
use Rattle.run_questions.proofs.parts.laws.printed_lines_rebuild.Goals as goal

pub returns : goal.returns
returns c = printed_lines_rebuild
