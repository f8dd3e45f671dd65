use Rattle.lane_chains.proofs.LanesOfChains.{chosen_is}
use Rattle.lane_chains.proofs.runs.chosen.Goals as goal

pub returns : goal.returns
returns c j lt = chosen_is c.args.steps c.args.to c.args.a c.args.b j c.fits-steps.0
    c.fits-to.0 c.fits-a.0 c.fits-b.0 lt
