-- The facts told are those from before and the rows of the certificates gone over, just the facts of the
-- report; no vote is among them.
use Rattle.std.proofs.Common.{map, arith}
use Rattle.plain_lists.proofs.Members.{all_at}
use Rattle.message_types.specs.declared.ordering.Certificate.{Certificate}
use Rattle.protocol_rules.specs.declared.facts.OrderFact.{OrderFact}
use Rattle.protocol_rules.specs.declared.facts.OrderFact.TheVariants as fact
use Rattle.view_change.specs.Planning.{is_spelled}
use Rattle.intruder_words.proofs.Alike.{told-certificates}
use Rattle.history_rules.proofs.Entries.{at_place}
use Rattle.global_order.proofs.Learning.{learns-start, learns-more, learns-all}
use Rattle.intruder_words.proofs.telling.tell_certificates.Goals as goal

rows_of : Certificate → OrderFact
rows_of c = fact.Rows c.rows

pub loop-certificate-init : goal.loop-certificate-init
loop-certificate-init c = learns-start (λ d. fact.Rows d.rows) c.args.order.now c.args.certificates.now

pub take_rows-requires : goal.take_rows-requires
take_rows-requires c = all_at is_spelled
    (at_place c.args.certificates.now c.loop-certificate.certificate-index c.certificate-item.result
    c.loop-certificate-test.true c.certificate-item.is) c.requires

pub loop-certificate-preserved : goal.loop-certificate-preserved
unfolding rows_of
loop-certificate-preserved c =
    learns-more rows_of c.args.order.now _ _ c.args.certificates.now c.loop-certificate.certificate-index
    c.certificate-item.result c.loop-certificate-test.true c.certificate-item.is c.loop-certificate.invariant
    c.in_ok-take_rows.ensures.taken

pub returns : goal.returns
unfolding rows_of
returns c = λ question. (
  map rows_of c.args.certificates.now,
  learns-all rows_of c.args.order.now _ c.args.certificates.now c.loop-certificate.certificate-index (omega arith)
      c.loop-certificate.invariant,
  told-certificates question c.args.certificates.now,
)
