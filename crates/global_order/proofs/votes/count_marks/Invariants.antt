use Rattle.std.proofs.Common.{◌≡◌, ◌≤◌, length}
use Rattle.global_order.specs.Index.{given, mark_at}
use Rattle.global_order.proofs.votes.count_marks.Given as goal

abbrev pub invariant-loop-master : goal.invariant-loop-master
invariant-loop-master l = (l.count ≡ length (given (mark_at l.marks l.s) l.master)) × (l.count ≤ l.master)
