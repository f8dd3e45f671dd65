use Rattle.std.proofs.Common.{◌≡◌, ◌<◌, ◌%◌, ◌/◌, ℕ, length, slice_index}
use Rattle.lane_chains.specs.Three.{of_three}
use Rattle.ots_keys.proofs.together.digits_in_turn.Given as goal

abbrev pub invariant-places : goal.invariant-places
invariant-places l = (length l.all ≡ 265)
    × ((m : ℕ) → m < l.n → slice_index l.all m ≡ slice_index (of_three l.x l.y l.z (m % 3)) (m / 3))
