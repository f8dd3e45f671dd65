use Rattle.std.proofs.Common.{◌≡◌, ℕ, not, nat_eq}
use Rattle.quorum_sets.specs.Masters.{voters}
use Rattle.world_history.proofs.addressing.all_others.Given as goal

-- the other masters among those so far
abbrev pub invariant-loop-master : goal.invariant-loop-master
invariant-loop-master l = l.to ≡ voters (λ (m : ℕ). not (nat_eq m l.actor)) l.master
