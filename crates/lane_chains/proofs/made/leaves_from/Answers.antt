use Rattle.std.proofs.Common.{arith, refl}
use Rattle.lane_chains.proofs.LanesOneByOne.{below_eight}
use Rattle.lane_chains.proofs.made.leaves_from.Goals as goal

pub returns : goal.returns
returns c = below_eight _ (omega arith) refl refl refl refl refl refl refl
