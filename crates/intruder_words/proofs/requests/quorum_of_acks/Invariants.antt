use Rattle.std.proofs.Common.{◌≡◌}
use Rattle.std.specs.List.{filter_map}
use Rattle.quorum_sets.specs.Masters.{numbers_below}
use Rattle.protocol_rules.specs.Words.{first_of_list}
use Rattle.protocol_rules.specs.Reconcile.{ack_of}
use Rattle.intruder_words.proofs.requests.quorum_of_acks.Given as goal

abbrev pub invariant-loop-master : goal.invariant-loop-master
invariant-loop-master l =
    l.acks.items ≡ filter_map (λ m. first_of_list (filter_map (ack_of l.j l.k l.digest m) l.known))
    (numbers_below l.master)
