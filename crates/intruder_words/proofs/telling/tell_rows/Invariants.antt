use Rattle.std.proofs.Common.{map, take}
use Rattle.protocol_rules.specs.declared.facts.OrderFact.TheVariants as fact
use Rattle.global_order.specs.OrderState.{Learns}
use Rattle.intruder_words.proofs.telling.tell_rows.Given as goal

abbrev pub invariant-loop-rows : goal.invariant-loop-rows
invariant-loop-rows l = Learns l.fn.order l.order (map fact.Rows (take l.rows-index l.all))
