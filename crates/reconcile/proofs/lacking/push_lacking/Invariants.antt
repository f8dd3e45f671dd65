use Rattle.std.proofs.Common.{◌≡◌, ◌≤◌, ◌++◌, max}
use Rattle.reconcile.specs.Lacked.{one_lacking}
use Rattle.reconcile.proofs.Gathered.{listed}
use Rattle.reconcile.proofs.lacking.push_lacking.Given as goal

abbrev pub invariant-loop-k : goal.invariant-loop-k
invariant-loop-k l = (l.lacking.items ≡ l.fn.lacking.items ++ listed (one_lacking l.preorder l.j) l.first l.k)
    × (l.k ≤ max l.first l.to)
