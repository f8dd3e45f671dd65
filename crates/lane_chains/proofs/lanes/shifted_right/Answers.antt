use Rattle.lane_chains.proofs.LanesOneByOne.{lanes_with}
use Rattle.lane_chains.proofs.lanes.shifted_right.Goals as goal

pub returns : goal.returns
returns c j lt = lanes_with _ c.args.x c.args.k c.fits-x.0 j lt
