-- A text that isn't empty has a byte in each piece.
use Rattle.parity_parts.proofs.Columns.{width_some}
use Rattle.parity_parts.proofs.part.width_of.Goals as goal

pub returns-clause-some : goal.returns-clause-some
returns-clause-some c some = width_some c.args.sizes.now.f c.args.size some
