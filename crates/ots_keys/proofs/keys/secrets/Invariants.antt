use Rattle.std.proofs.Common.{◌≡◌, ℕ, ◌<◌}
use Rattle.lane_chains.specs.Chains.{value_at}
use Rattle.ots_keys.proofs.keys.secrets.Given as goal

abbrev pub invariant-seeds : goal.invariant-seeds
invariant-seeds l = (k : ℕ) → k < l.i → value_at l.seeds k ≡ l.seed
