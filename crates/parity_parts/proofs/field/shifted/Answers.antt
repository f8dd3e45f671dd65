-- The code is the definition.
use Rattle.std.proofs.Common.{refl}
use Rattle.parity_parts.specs.Field.{times_x}
use Rattle.parity_parts.proofs.field.shifted.Goals as goal

pub returns : goal.returns
unfolding times_x
returns c = refl
