-- The base so far is the greatest of the reports gone over, and at the end all were gone over.
use Rattle.std.proofs.Common.{arith}
use Rattle.message_types.specs.declared.signed.Signed.{Signed}
use Rattle.message_types.specs.declared.views.Report.{Report}
use Rattle.view_change.proofs.Best.{greatest-more}
use Rattle.intruder_words.proofs.Shortening.{bases-are}
use Rattle.intruder_words.proofs.plans.greatest_base.Goals as goal

pub loop-report-preserved : goal.loop-report-preserved
loop-report-preserved c = greatest-more (λ (r : Signed Report). r.body.base)
    c.args.reports.now c.loop-report.report-index c.report-item.result c.loop-report.base 0 c.max-base.result
    c.loop-report-test.true c.report-item.is c.loop-report.invariant c.max-base.ensures

pub returns : goal.returns
returns c = bases-are c.args.reports.now c.loop-report.report-index c.loop-report.base
    (omega arith) c.loop-report.invariant
