-- Each lane has the identifier and the leaf of its chain's key, and the chain's number in that key.
use Rattle.std.proofs.Common.{slice_index}
use Rattle.lane_chains.proofs.ThreeKeys.{leaf_is}
use Rattle.lane_chains.proofs.three.ends_at.Goals as goal

pub returns : goal.returns
returns c j lt =
    rw (
      c.ids_of.ensures j lt,
      c.word_of.ensures j lt,
      leaf_is c.args.a.now c.args.b.now c.args.c.now (slice_index c.keys_of-keys.result j),
      c.keys_of-keys.ensures j lt,
      c.numbers_of.ensures.value j lt,
      c.gathered.ensures j lt,
      c.gathered-2.ensures j lt,
      c.gathered_values-start.ensures j lt,
    ) at (c.run_lanes.ensures j lt)
