use Rattle.std.proofs.Common.{◌≡◌}
use Rattle.std.specs.List.{filter_map}
use Rattle.quorum_sets.specs.Masters.{numbers_below}
use Rattle.reconcile.specs.GiftState.{ack_among}
use Rattle.reconcile.proofs.acks.lowest_acks.Given as goal

-- those of the masters so far are there
abbrev pub invariant-loop-master : goal.invariant-loop-master
invariant-loop-master l = l.frames.items ≡ filter_map (ack_among l.acks.entries l.j l.k l.digest)
    (numbers_below l.master)
