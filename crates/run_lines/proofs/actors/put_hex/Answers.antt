use Rattle.std.proofs.Common.{arith}
use Rattle.std.proofs.lemmas.Grind.{common_steps}
use Rattle.run_lines.proofs.Parts.{hex_text-none, hex_text-more}
use Rattle.run_lines.proofs.actors.put_hex.Goals as goal

pub returns-then-is_empty : goal.returns-then-is_empty
returns-then-is_empty c = grind (arith, common_steps, hex_text-none c.args.bytes.now c.if-is_empty.ensures)

pub returns : goal.returns
returns c = grind (arith, common_steps, hex_text-more c.args.bytes.now c.if-is_empty.ensures)
