-- Lanes that all have one key.
use Rattle.lane_chains.proofs.runs.group_ends.Goals as goal

pub returns : goal.returns
returns c j lt =
    rw (
      c.same_id.ensures.bytes j lt,
      c.splat.ensures j lt,
      c.spread.ensures.value j lt,
      c.gathered.ensures j lt,
      c.gathered-2.ensures j lt,
      c.gathered_values-start.ensures j lt,
    ) at (c.run_lanes.ensures j lt)
