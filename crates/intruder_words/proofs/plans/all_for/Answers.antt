-- The certificates kept so far are those for the number among those gone over, and at the end all were gone over.
use Rattle.std.proofs.Common.{filter, refl, ◌∙◌, ap, arith}
use Rattle.std.proofs.lemmas.List.{take_all}
use Rattle.view_change.specs.Planning.{is_for}
use Rattle.intruder_words.proofs.Shortening.{all-for-next}
use Rattle.intruder_words.proofs.plans.all_for.Goals as goal

pub loop-certificate-preserved : goal.loop-certificate-preserved
loop-certificate-preserved c = all-for-next c.args.s c.args.all.now c.loop-certificate.certificate-index
    c.certificate-item.result _ _ _ c.loop-certificate-test.true c.certificate-item.is c.loop-certificate.invariant
    c.in_ok-push_if.ensures refl

pub returns : goal.returns
returns c = c.loop-certificate.invariant ∙ ap (filter (is_for c.args.s))
    (take_all c.loop-certificate.certificate-index c.args.all.now (omega arith))
