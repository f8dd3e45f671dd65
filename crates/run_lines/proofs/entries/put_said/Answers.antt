use Rattle.std.proofs.Common.{arith}
use Rattle.std.proofs.lemmas.Grind.{common_steps}
use Rattle.run_lines.proofs.Parts.{said_text-none, said_text-more}
use Rattle.run_lines.proofs.entries.put_said.Goals as goal

pub returns-then-is_empty : goal.returns-then-is_empty
returns-then-is_empty c = grind (arith, common_steps, said_text-none c.args.said.now c.if-is_empty.ensures)

pub returns : goal.returns
returns c = grind (arith, common_steps, said_text-more c.args.said.now c.if-is_empty.ensures)
