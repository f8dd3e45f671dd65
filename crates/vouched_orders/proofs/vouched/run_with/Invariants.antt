use Rattle.std.proofs.Common.{◌≡◌, ◌<◌, ◌+◌, ℕ, length, slice_get}
use Rattle.vouched_orders.specs.Tally.{order_with}
use Rattle.vouched_orders.proofs.vouched.run_with.Given as goal

abbrev pub invariant-loop-last : goal.invariant-loop-last
invariant-loop-last l = (
    (l.first.number + length l.run.items ≡ l.last + 1)
    × ((i : ℕ) → i < length l.run.items → slice_get l.run.items i ≡ order_with l.settled l.first (l.first.number + i))
    )
