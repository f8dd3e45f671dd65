use Rattle.std.proofs.Common.{ℕ, ◌<◌, ◌≤◌, ◌+◌, slice_index}
use Rattle.lane_chains.proofs.runs.most_steps.Given as goal

abbrev pub invariant-lanes : goal.invariant-lanes
invariant-lanes l = (k : ℕ) → k < l.j → slice_index l.to (slice_index l.group k) ≤ slice_index l.from
    (slice_index l.group k) + l.most
