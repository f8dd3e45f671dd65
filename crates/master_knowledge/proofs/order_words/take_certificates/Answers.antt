-- Certificate after certificate the order learns its rows; those of the certificates so far, and at the end of
-- all.
use Rattle.std.proofs.Common.{arith}
use Rattle.message_types.specs.declared.ordering.Certificate.{Certificate}
use Rattle.protocol_rules.specs.declared.facts.OrderFact.TheVariants as fact
use Rattle.global_order.proofs.Learning.{learns-start, learns-more, learns-all}
use Rattle.master_knowledge.proofs.order_words.take_certificates.Goals as goal

pub loop-certificate-init : goal.loop-certificate-init
loop-certificate-init c = learns-start (λ (d : Certificate). fact.Rows d.rows) c.args.order.now c.args.certificates.now

pub loop-certificate-preserved : goal.loop-certificate-preserved
loop-certificate-preserved c = learns-more (λ (d : Certificate). fact.Rows d.rows)
    c.args.order.now c.loop-certificate.order c.take_rows.new.self c.args.certificates.now
    c.loop-certificate.certificate-index c.certificate-item.result
    c.loop-certificate-test.true c.certificate-item.is c.loop-certificate.invariant c.in_ok-take_rows.ensures.taken

pub returns : goal.returns
returns c = learns-all (λ (d : Certificate). fact.Rows d.rows) c.args.order.now c.loop-certificate.order
    c.args.certificates.now c.loop-certificate.certificate-index (omega arith) c.loop-certificate.invariant
