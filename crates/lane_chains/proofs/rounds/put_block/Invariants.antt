use Rattle.std.proofs.Common.{◌≡◌, ℕ, ◌<◌, length, slice_index}
use Rattle.lane_chains.specs.Lanes.{column}
use Rattle.lane_chains.proofs.rounds.put_block.Given as goal

abbrev pub invariant-words : goal.invariant-words
invariant-words l =
    (length l.room ≡ 64) × ((j i : ℕ) → i < l.k → slice_index (column j l.room) i ≡ slice_index (column j l.block) i)
