-- No view gone through so far has a certificate for the number, so that of the views below is the one looked
-- for.
use Rattle.std.proofs.Common.{◌≡◌, List}
use Rattle.protocol_rules.specs.declared.facts.OrderFact.{OrderFact}
use Rattle.protocol_rules.specs.Group.{Group}
use Rattle.protocol_rules.specs.Order.{last_certificate}
use Rattle.global_order.specs.OrderState.{HasSizes}
use Rattle.global_order.specs.Index.{HasPrepares, HasChoices}
use Rattle.global_order.proofs.certificates.last_certificate_of.Given as goal

-- no view from here on has one
abbrev pub invariant-loop-v : goal.invariant-loop-v
invariant-loop-v l = (g : Group) (facts : List OrderFact) → HasSizes g l.sizes.n l.sizes.q →
    HasPrepares facts l.votes → HasChoices g facts l.choices →
    last_certificate g facts l.v l.s ≡ last_certificate g facts l.below l.s

abbrev pub decreases-loop-v : goal.decreases-loop-v
decreases-loop-v l = l.v
