-- The prepares due for the numbers so far are there.
use Rattle.std.proofs.Common.{◌≡◌, ◌++◌, ◌-◌, ◌≤◌, List}
use Rattle.std.specs.List.{flat_map}
use Rattle.message_types.specs.declared.body.Body.{Body}
use Rattle.protocol_rules.specs.declared.facts.OrderFact.{OrderFact}
use Rattle.protocol_rules.specs.Words.{numbers_from}
use Rattle.protocol_rules.specs.Order.{prepare_due}
use Rattle.global_order.specs.Offered.{HasOffers}
use Rattle.global_order.specs.Saying.{HasSaidPrepares}
use Rattle.global_order.proofs.due.push_prepares.Given as goal

-- those of the numbers so far are there
abbrev pub invariant-loop-s : goal.invariant-loop-s
invariant-loop-s l = record {
  in_range : l.s - l.low ≤ l.high - l.low;
  added : (facts : List OrderFact) (words : List Body) → HasOffers facts l.offers → HasSaidPrepares words l.said →
      l.bodies.items ≡ l.initial.bodies.items ++ flat_map (prepare_due facts words l.v)
      (numbers_from l.low (l.s - l.low));
}
