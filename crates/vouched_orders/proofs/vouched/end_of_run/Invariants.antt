use Rattle.std.proofs.Common.{◌<◌, ◌≤◌, ◌+◌, ℕ, IsSome}
use Rattle.std.specs.BTreeMap.{get}
use Rattle.std.specs.Ordering.{nat_cmp}
use Rattle.vouched_orders.proofs.vouched.end_of_run.Given as goal

abbrev pub invariant-loop-end : goal.invariant-loop-end
invariant-loop-end l = (i : ℕ) → l.fn.count ≤ i → i < l.end → IsSome (get nat_cmp l.settled (i + 1))
