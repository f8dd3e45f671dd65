use Rattle.lane_chains.proofs.StepsInOneBlock.{same_word_is, word_fits}
use Rattle.lane_chains.proofs.steps.each_word.Goals as goal

pub returns : goal.returns
returns c j lt = same_word_is _ (word_fits c.args.x j c.fits-x.0 c.fits-x.1 lt)
