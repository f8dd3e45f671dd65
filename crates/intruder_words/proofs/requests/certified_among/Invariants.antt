use Rattle.std.proofs.Common.{◌≡◌}
use Rattle.protocol_rules.specs.Group.{group_of}
use Rattle.protocol_rules.specs.Preorder.{certified}
use Rattle.intruder_words.specs.Certifying.{first_acked}
use Rattle.intruder_words.proofs.Walks.{met_from}
use Rattle.intruder_words.proofs.requests.certified_among.Given as goal

abbrev pub invariant-loop-end : goal.invariant-loop-end
invariant-loop-end l = certified (group_of l.sizes 0) l.known l.j l.k ≡ met_from
    (first_acked (group_of l.sizes 0) l.j l.k) l.known l.end
