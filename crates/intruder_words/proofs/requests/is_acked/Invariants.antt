use Rattle.std.proofs.Common.{◌≡◌, ◌≤◌, length}
use Rattle.std.specs.List.{list_any}
use Rattle.quorum_sets.specs.Masters.{voters}
use Rattle.protocol_rules.specs.Preorder.{is_ack}
use Rattle.intruder_words.proofs.requests.is_acked.Given as goal

abbrev pub invariant-loop-master : goal.invariant-loop-master
invariant-loop-master l = (l.count ≡ length (voters (λ m. list_any (is_ack l.j l.k l.digest m) l.known) l.master))
    × (l.count ≤ l.master)
