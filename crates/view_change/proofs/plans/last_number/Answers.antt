-- The number so far is the greatest of the certificates of the reports so far, so after all reports it is the
-- last number of the plan.
use Rattle.std.proofs.Common.{List, max, map, ap, ◌∙◌}
use Rattle.message_types.specs.declared.views.Report.{Report}
use Rattle.protocol_rules.specs.Words.{greatest_of}
use Rattle.protocol_rules.specs.Plans.{certificates_of}
use Rattle.view_change.proofs.Best.{last-more, below_mapped, take_all_mapped}
use Rattle.plain_lists.proofs.Lists.{mapped_at}
use Rattle.view_change.proofs.plans.last_number.Goals as goal

pub loop-holder-preserved : goal.loop-holder-preserved
loop-holder-preserved g c =
    last-more (map g.R.BringsReport.brought c.args.reports.now) c.loop-holder.holder-index
    (g.R.BringsReport.brought c.holder-item.result) c.loop-holder.last c.last_among-last.result
    (below_mapped g.R.BringsReport.brought c.args.reports.now c.loop-holder.holder-index c.loop-holder-test.true)
    (mapped_at g.R.BringsReport.brought c.args.reports.now c.loop-holder.holder-index c.holder-item.result
    c.loop-holder-test.true c.holder-item.is)
    c.loop-holder.invariant
    (c.last_among-last.ensures ∙ ap (λ cs. max c.loop-holder.last (greatest_of (map (λ d. d.s) cs)))
    c.as_slice.ensures ∙ ap (λ (r : Report). max c.loop-holder.last (greatest_of (map (λ d. d.s) r.certificates)))
    c.report.ensures)

pub returns : goal.returns
returns g c =
    c.loop-holder.invariant ∙ ap (λ (rs : List Report). greatest_of (map (λ d. d.s) (certificates_of rs)))
    (take_all_mapped g.R.BringsReport.brought c.args.reports.now c.loop-holder.holder-index
    c.loop-holder-test.false)
