use Rattle.lane_chains.proofs.LanesOneByOne.{lanes_with}
use Rattle.lane_chains.proofs.runs.plus_one.Goals as goal

pub returns : goal.returns
returns c j lt = lanes_with _ c.args.a 1 c.fits-a.0 j lt
