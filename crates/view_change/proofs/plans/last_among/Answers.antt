use Rattle.message_types.specs.declared.ordering.Certificate.{Certificate}
use Rattle.view_change.proofs.Best.{greatest-more}
use Rattle.view_change.proofs.plans.last_among.Goals as goal

pub loop-certificate-preserved : goal.loop-certificate-preserved
loop-certificate-preserved c =
    greatest-more (λ (d : Certificate). d.s) c.args.certificates.now c.loop-certificate.certificate-index
    c.certificate-item.result c.loop-certificate.last c.args.least c.max-last.result c.loop-certificate-test.true
    c.certificate-item.is c.loop-certificate.invariant c.max-last.ensures
