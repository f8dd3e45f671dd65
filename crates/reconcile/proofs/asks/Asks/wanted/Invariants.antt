use Rattle.std.proofs.Common.{◌≡◌, ◌++◌}
use Rattle.reconcile.proofs.asks.Asks.wanted.Given as goal

abbrev pub invariant-loop-wanted : goal.invariant-loop-wanted
invariant-loop-wanted l = l.list.items ++ l.wanted-iterator ≡ l.fn.self.wanted
