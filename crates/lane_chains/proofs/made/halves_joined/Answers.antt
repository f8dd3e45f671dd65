use Rattle.std.proofs.Common.{slice_index}
use Rattle.lane_chains.proofs.PairsOfValues.{halves_joined_is}
use Rattle.lane_chains.proofs.StepsInOneBlock.{word_fits}
use Rattle.lane_chains.proofs.made.halves_joined.Goals as goal

pub returns : goal.returns
returns c j lt =
    rw (c.add.ensures j lt, c.shifted_left.ensures j lt, c.shifted_right.ensures j lt)
    (halves_joined_is (slice_index c.args.a j) (slice_index c.args.b j)
    (word_fits c.args.a j c.fits-a.0 c.fits-a.1 lt) (word_fits c.args.b j c.fits-b.0 c.fits-b.1 lt))
