use Rattle.part_lines.proofs.ReadBack.{printed_parts_are_read}
use Rattle.part_lines.proofs.laws.printed_parts_are_read.Goals as goal

pub returns : goal.returns
returns c = printed_parts_are_read
