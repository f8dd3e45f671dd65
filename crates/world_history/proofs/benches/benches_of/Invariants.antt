use Rattle.std.proofs.Common.{◌≡◌, ◌++◌, length, map}
use Rattle.std.specs.Vec.Iter.{into_iter_items, into_iter_len}
use Rattle.world_history.proofs.benches.benches_of.Given as goal

-- with the benches of the rest all would be there
abbrev pub invariant-loop-actor : goal.invariant-loop-actor
invariant-loop-actor l =
    (l.benches.items ++ map (λ k. k.bench) (into_iter_items l.actor-iterator) ≡ map (λ k. k.bench)
    (into_iter_items l.initial.actor-iterator))
    × (into_iter_len l.actor-iterator ≡ length (into_iter_items l.actor-iterator))
