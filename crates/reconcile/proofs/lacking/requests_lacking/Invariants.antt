use Rattle.std.proofs.Common.{◌≡◌, ◌<◌, ℕ, get_or}
use Rattle.std.specs.List.{flat_map}
use Rattle.quorum_sets.specs.Masters.{numbers_below}
use Rattle.preorder.specs.PreorderState.{Where}
use Rattle.reconcile.specs.Lacked.{lacking_of}
use Rattle.reconcile.proofs.lacking.requests_lacking.Given as goal

abbrev pub invariant-loop-j : goal.invariant-loop-j
invariant-loop-j l = Where l.preorder (λ g me taken known said. (to : ℕ → ℕ) →
    ((j : ℕ) → j < g.n → get_or l.wanted_to j 0 ≡ to j) →
    l.lacking.items ≡ flat_map (lacking_of g known to) (numbers_below l.j))
