use Rattle.lane_chains.proofs.ThreeKeys.{below_three}
use Rattle.lane_chains.proofs.three.three_values.Goals as goal

pub returns : goal.returns
returns c = below_three _ c.value_in.ensures c.value_in-2.ensures c.value_in-3.ensures
