-- The certificates so far are those of the reports gone over, in their order and without their prepares.
use Rattle.std.proofs.Common.{map, ◌∙◌, ap, arith}
use Rattle.std.proofs.lemmas.List.{take_all}
use Rattle.protocol_rules.specs.Plans.{certificates_of}
use Rattle.intruder_words.specs.Telling.{bare}
use Rattle.intruder_words.proofs.Shortening.{bare-next}
use Rattle.intruder_words.proofs.plans.bare_certificates.Goals as goal

pub loop-report-init : goal.loop-report-init
loop-report-init c = c.new-all.ensures.items

pub loop-report-preserved : goal.loop-report-preserved
loop-report-preserved c = bare-next c.args.reports.now c.loop-report.report-index c.report-item.result _ _ _
    c.loop-report-test.true c.report-item.is c.loop-report.invariant c.in_ok-push_bare.ensures c.as_slice.ensures

pub returns : goal.returns
returns c = c.loop-report.invariant ∙ ap (λ rs. map bare (certificates_of (map (λ r. r.body) rs)))
    (take_all c.loop-report.report-index c.args.reports.now (omega arith))
