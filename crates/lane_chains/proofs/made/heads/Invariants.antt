use Rattle.std.proofs.Common.{◌≡◌, ◌+◌, ◌<◌, ℕ}
use Rattle.lane_chains.specs.Chains.{value_at}
use Rattle.lane_chains.specs.Made.{head}
use Rattle.lane_chains.proofs.made.heads.Given as goal

abbrev pub invariant-leaves : goal.invariant-leaves
invariant-leaves l = (k : ℕ) → k < l.j → value_at l.values k ≡ head l.id (l.q + k) l.tag
