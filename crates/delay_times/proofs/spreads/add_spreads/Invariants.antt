use Rattle.std.proofs.Common.{◌≡◌, ◌++◌}
use Rattle.std.specs.List.{flat_map}
use Rattle.quorum_sets.specs.Masters.{numbers_below}
use Rattle.delay_times.specs.Spreads.{spreads_at}
use Rattle.delay_times.proofs.spreads.add_spreads.Given as goal

-- the actors so far have theirs
abbrev pub invariant-loop-actor : goal.invariant-loop-actor
invariant-loop-actor l =
    l.spreads.items ≡ l.initial.spreads.items ++ flat_map (spreads_at l.outcomes l.client) (numbers_below l.actor)
