use Rattle.std.proofs.Common.{slice_index}
use Rattle.lane_chains.proofs.ThreeKeys.{choice_is}
use Rattle.lane_chains.proofs.three.word_of.Goals as goal

pub returns : goal.returns
returns c j lt =
    rw (
      c.chosen-2.ensures j lt,
      c.chosen.ensures j lt,
      c.splat.ensures j lt,
      c.splat-2.ensures j lt,
      c.splat-3.ensures j lt,
      c.splat-4.ensures j lt,
      c.splat-5.ensures j lt,
    )
    (choice_is c.args.a c.args.b c.args.c (slice_index c.args.keys j))
