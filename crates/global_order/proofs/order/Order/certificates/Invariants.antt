-- The certificates are those of the numbers so far, whichever facts the order was handed.
use Rattle.std.proofs.Common.{◌≡◌, ◌+◌, ◌-◌, ◌≤◌, List}
use Rattle.std.specs.List.{filter_map}
use Rattle.message_types.specs.declared.body.Body.{Body}
use Rattle.protocol_rules.specs.declared.facts.OrderFact.{OrderFact}
use Rattle.protocol_rules.specs.Group.{Group}
use Rattle.protocol_rules.specs.Words.{numbers_from}
use Rattle.protocol_rules.specs.Order.{last_certificate}
use Rattle.global_order.specs.OrderState.{IsOrderOf}
use Rattle.global_order.specs.Held.{state_of}
use Rattle.global_order.proofs.order.Order.certificates.Given as goal

-- those of the numbers so far are there
abbrev pub invariant-loop-s : goal.invariant-loop-s
invariant-loop-s l = record {
  in_range : l.s ≤ l.self-inside.stable + 16 + 1;
  added : (g : Group) (facts : List OrderFact) (said : List Body) → IsOrderOf g (state_of l.self-inside) facts said →
      l.certificates.items ≡ filter_map (last_certificate g facts l.below)
      (numbers_from (l.self-inside.stable + 1) (l.s - (l.self-inside.stable + 1)));
}
