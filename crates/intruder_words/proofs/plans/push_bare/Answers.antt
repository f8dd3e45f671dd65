-- Behind what was there stand the certificates gone over, without their prepares; each turn adds the next.
use Rattle.std.proofs.Common.{◌++◌, ◌∷◌, [], map, sym, ◌∙◌, ap, arith, append-nil}
use Rattle.std.proofs.lemmas.List.{take_all}
use Rattle.intruder_words.specs.Telling.{bare}
use Rattle.intruder_words.proofs.Shortening.{map-next}
use Rattle.intruder_words.proofs.plans.push_bare.Goals as goal

pub loop-certificate-init : goal.loop-certificate-init
loop-certificate-init c = sym (append-nil c.args.all.now.items)

pub loop-certificate-preserved : goal.loop-certificate-preserved
loop-certificate-preserved c =
    c.in_ok-push.ensures.items ∙ ap (λ x. c.loop-certificate.all.items ++ x ∷ []) c.in_ok-bare.ensures
    ∙ map-next bare c.args.all.now.items c.loop-certificate.all.items c.args.certificates.now
    c.loop-certificate.certificate-index c.certificate-item.result c.loop-certificate-test.true
    c.certificate-item.is c.loop-certificate.invariant

pub returns : goal.returns
returns c = c.loop-certificate.invariant ∙ ap (λ xs. c.args.all.now.items ++ map bare xs)
    (take_all c.loop-certificate.certificate-index c.args.certificates.now (omega arith))
