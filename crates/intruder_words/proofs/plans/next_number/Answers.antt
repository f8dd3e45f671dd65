-- The number so far is the least above the given one among the certificates gone over; each turn weighs it
-- against the next certificate's.
use Rattle.std.proofs.Common.{sym, subst, List, arith}
use Rattle.std.proofs.lemmas.List.{take_all}
use Rattle.message_types.specs.declared.ordering.Certificate.{Certificate}
use Rattle.intruder_words.specs.Numbering.{IsNextNumber}
use Rattle.intruder_words.proofs.Shortening.{next-none, next-step}
use Rattle.intruder_words.proofs.plans.next_number.Goals as goal

pub loop-certificate-init : goal.loop-certificate-init
loop-certificate-init c = next-none c.args.at

pub loop-certificate-preserved : goal.loop-certificate-preserved
loop-certificate-preserved c = subst (IsNextNumber _ c.args.at) (sym c.lesser-next.ensures)
    (next-step c.args.all.now c.args.at c.loop-certificate.certificate-index c.loop-certificate.next
    c.certificate-item.result c.loop-certificate-test.true c.certificate-item.is c.loop-certificate.invariant)

pub returns : goal.returns
returns c = subst (λ (cs : List Certificate). IsNextNumber cs c.args.at c.loop-certificate.next)
    (take_all c.loop-certificate.certificate-index c.args.all.now (omega arith)) c.loop-certificate.invariant
