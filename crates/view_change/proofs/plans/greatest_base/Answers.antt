-- The base so far is the greatest of the reports so far, and after all of them it is the base of the new view.
use Rattle.std.proofs.Common.{max, map, ap, ◌∙◌}
use Rattle.message_types.specs.declared.views.Report.{Report}
use Rattle.view_change.proofs.Best.{greatest-more, below_mapped, all_bases}
use Rattle.plain_lists.proofs.Lists.{mapped_at}
use Rattle.view_change.proofs.plans.greatest_base.Goals as goal

pub loop-holder-preserved : goal.loop-holder-preserved
loop-holder-preserved g c =
    greatest-more (λ (r : Report). r.base) (map g.R.BringsReport.brought c.args.reports.now)
    c.loop-holder.holder-index (g.R.BringsReport.brought c.holder-item.result)
    c.loop-holder.base 0 c.max-base.result
    (below_mapped g.R.BringsReport.brought c.args.reports.now c.loop-holder.holder-index c.loop-holder-test.true)
    (mapped_at g.R.BringsReport.brought c.args.reports.now c.loop-holder.holder-index c.holder-item.result
    c.loop-holder-test.true c.holder-item.is)
    c.loop-holder.invariant (c.max-base.ensures ∙ ap (λ (r : Report). max r.base c.loop-holder.base) c.report.ensures)

pub returns : goal.returns
returns g c = c.loop-holder.invariant ∙ all_bases g.R.BringsReport.brought c.args.reports.now
    c.loop-holder.holder-index c.loop-holder-test.false
