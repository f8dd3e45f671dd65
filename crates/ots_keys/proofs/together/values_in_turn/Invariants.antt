use Rattle.std.proofs.Common.{◌≡◌, ◌<◌, ◌%◌, ◌/◌, ℕ}
use Rattle.lane_chains.specs.Chains.{value_at}
use Rattle.lane_chains.specs.Three.{of_three}
use Rattle.ots_keys.proofs.together.values_in_turn.Given as goal

abbrev pub invariant-places : goal.invariant-places
invariant-places l = (m : ℕ) → m < l.n → value_at l.all m ≡ value_at (of_three l.x l.y l.z (m % 3)) (m / 3)
