-- What is pending lies in the range, where that holds any number, or from `beyond` on.
use Rattle.std.proofs.Common.{◌≤◌, inl, inr, arith}
use Rattle.global_order.proofs.pending.first_pending.Goals as goal

pub returns-then-pending : goal.returns-then-pending
returns-then-pending c s among = elim among [
  | inl within ↦ let above : c.args.pending.now.low ≤ s = within.0 in omega arith
  | inr beyond ↦ omega arith
]

pub returns-else-pending : goal.returns-else-pending
returns-else-pending c s among = elim among [
  | inl within ↦ absurd (omega (arith, within.0, within.1, c.if-pending.false))
  | inr beyond ↦ omega arith
]
