use Rattle.std.proofs.Common.{◌≡◌, length, All}
use Rattle.std.specs.Vec.Iter.{into_iter_items, into_iter_len}
use Rattle.replica_threads.specs.Courses.{IsPlace}
use Rattle.replica_threads.proofs.Seats.{AreSeated}
use Rattle.replica_threads.proofs.seating.places.Given as goal

-- the actors so far have their seats, and the inputs of the others are left
abbrev pub invariant-loop-actor : goal.invariant-loop-actor
invariant-loop-actor g l =
    AreSeated g.N.Naming.name l.stamps l.first l.actor (into_iter_items l.lists)
    × (length l.places.items ≡ l.actor)
    × (into_iter_len l.lists ≡ length (into_iter_items l.lists))
    × All (IsPlace g.N.Naming.name) l.places.items
