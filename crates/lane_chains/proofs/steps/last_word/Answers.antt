use Rattle.std.proofs.Common.{slice_index}
use Rattle.lane_chains.proofs.StepsInOneBlock.{last_word_is, word_fits}
use Rattle.lane_chains.proofs.steps.last_word.Goals as goal

pub returns : goal.returns
returns c j lt =
    rw (c.add.ensures j lt, c.shifted_left.ensures j lt, c.splat.ensures j lt)
    (last_word_is (slice_index c.args.a j) (word_fits c.args.a j c.fits-a.0 c.fits-a.1 lt))
