use Rattle.std.proofs.Common.{◌≡◌, ℕ, ◌<◌, ◌%◌, length, slice_index}
use Rattle.lane_chains.proofs.three.keys_of.Given as goal

abbrev pub invariant-lanes : goal.invariant-lanes
invariant-lanes l = (length l.words ≡ 8) × ((k : ℕ) → k < l.j → slice_index l.words k ≡ slice_index l.group k % 3)
