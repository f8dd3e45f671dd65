use Rattle.printed_laws.proofs.LinesReadBack.{printed_lines_read_back}
use Rattle.printed_laws.proofs.printed_lines_read_back.Goals as goal

pub returns : goal.returns
returns c = printed_lines_read_back
