use Rattle.std.proofs.Common.{ℕ, ◌<◌, ◌-◌, slice_index}
use Rattle.sha2.specs.Sha256.{digest_bytes}
use Rattle.lane_chains.specs.Lanes.{lane, id_lane}
use Rattle.lane_chains.proofs.LanesOfChains.{Lane}
use Rattle.lane_chains.proofs.runs.run_lanes.Given as goal

abbrev pub invariant-turns : goal.invariant-turns
invariant-turns l = (j : ℕ) → j < 8
    → Lane (digest_bytes (id_lane j l.ids) 4) (slice_index l.q j) (slice_index l.chains j) (slice_index l.fn.from j) (slice_index l.to j)
    (l.turns - l.turn) (slice_index l.steps j) (lane j l.fn.start) (lane j l.v)
