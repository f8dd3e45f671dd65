-- In each lane eight words more than rounds are there, and the variables are those of the rounds so far.
use Rattle.std.proofs.Common.{◌≡◌, ℕ, ◌<◌, ◌+◌, ◌*◌, List, slice_index}
use Rattle.sha2.specs.Sha256.{rounds, schedule}
use Rattle.lane_chains.specs.Lanes.{column, lane}
use Rattle.lane_chains.proofs.rounds.run_rounds.Given as goal

abbrev pub invariant-turns : goal.invariant-turns
invariant-turns l = (j : ℕ) → j < 8 → (b h : List ℕ)
    → ((k : ℕ) → k < 16 → slice_index (column j l.fn.room) k ≡ slice_index (schedule b 48) k)
    → lane j l.fn.begun ≡ rounds h (schedule b 48) 5
    → ((k : ℕ) → k < 8 * l.turn + 8 → slice_index (column j l.room) k ≡ slice_index (schedule b 48) k)
    × (lane j l.v ≡ rounds h (schedule b 48) (8 * l.turn))
