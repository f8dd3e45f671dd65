use Rattle.std.proofs.Common.{map, take}
use Rattle.protocol_rules.specs.declared.facts.OrderFact.TheVariants as fact
use Rattle.global_order.specs.OrderState.{Learns}
use Rattle.intruder_words.proofs.telling.tell_certificates.Given as goal

abbrev pub invariant-loop-certificate : goal.invariant-loop-certificate
invariant-loop-certificate l =
    Learns l.fn.order l.order (map (λ c. fact.Rows c.rows) (take l.certificate-index l.certificates))
