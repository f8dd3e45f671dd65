use Rattle.std.proofs.Common.{◌≡◌, ℕ}
use Rattle.std.specs.List.{flat_map}
use Rattle.quorum_sets.specs.Masters.{numbers_below}
use Rattle.delay_times.specs.Spreads.{spreads_of_client}
use Rattle.delay_times.proofs.spreads.spreads_of.Given as goal

-- the clients so far have theirs
abbrev pub invariant-loop-client : goal.invariant-loop-client
invariant-loop-client l =
    l.spreads.items
    ≡ flat_map (λ (client : ℕ). spreads_of_client l.outcomes client l.actors) (numbers_below l.client)
