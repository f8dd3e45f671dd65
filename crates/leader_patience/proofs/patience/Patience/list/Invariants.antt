use Rattle.std.proofs.Common.{◌≡◌}
use Rattle.std.specs.List.{filter_map}
use Rattle.quorum_sets.specs.Masters.{numbers_below}
use Rattle.leader_patience.specs.PatienceState.{vote_at}
use Rattle.leader_patience.proofs.patience.Patience.list.Given as goal

abbrev pub invariant-loop-against : goal.invariant-loop-against
invariant-loop-against l =
    l.bodies.items ≡ filter_map (vote_at l.fn.self l.view l.now l.is_impatient) (numbers_below l.against)
