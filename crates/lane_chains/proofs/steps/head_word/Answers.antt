-- Chain, step and byte fill bits of the word that don't overlap, as each is within its width. So the sum of the
-- shifted parts is the word of their bytes.
use Rattle.std.proofs.Common.{slice_index}
use Rattle.lane_chains.proofs.StepsInOneBlock.{head_word_is, word_fits}
use Rattle.lane_chains.proofs.steps.head_word.Goals as goal

pub returns : goal.returns
returns c j lt =
    rw (
      c.add-2.ensures j lt,
      c.add.ensures j lt,
      c.shifted_left.ensures j lt,
      c.shifted_left-2.ensures j lt,
      c.shifted_right.ensures j lt,
    )
    (head_word_is (slice_index c.args.chain j) (slice_index c.args.step j) (slice_index c.args.a j)
    (c.requires.chain j lt) (c.requires.step j lt) (word_fits c.args.a j c.fits-a.0 c.fits-a.1 lt))
