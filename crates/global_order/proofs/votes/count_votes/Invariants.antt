use Rattle.std.proofs.Common.{◌≡◌, ◌≤◌, length}
use Rattle.global_order.specs.Index.{given, vote_at}
use Rattle.global_order.proofs.votes.count_votes.Given as goal

abbrev pub invariant-loop-master : goal.invariant-loop-master
invariant-loop-master l = (l.count ≡ length (given (vote_at l.votes l.v l.s l.digest) l.master)) × (l.count ≤ l.master)
