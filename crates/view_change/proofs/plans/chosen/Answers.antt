-- The best certificate so far is the best for this number among those of the reports so far, as each report's
-- own best is set against it.
use Rattle.std.proofs.Common.{◌++◌, ap, ◌∙◌, filter, take, map, List}
use Rattle.std.specs.List.{list_all}
use Rattle.message_types.specs.declared.ordering.Certificate.{Certificate}
use Rattle.message_types.specs.declared.views.Report.{Report}
use Rattle.protocol_rules.specs.Words.{best_by}
use Rattle.protocol_rules.specs.Plans.{goes_before, certificates_of}
use Rattle.view_change.specs.Planning.{is_for, is_spelled}
use Rattle.view_change.proofs.Best.{best-start, report-spelled, certificates_of-more, chosen-is, below_mapped}
use Rattle.view_change.proofs.Best.{take_all_mapped}
use Rattle.plain_lists.proofs.Lists.{mapped_at}
use Rattle.view_change.proofs.plans.chosen.Goals as goal

pub loop-holder-init : goal.loop-holder-init
loop-holder-init g c = (best-start c.args.s, tt)

pub best_among-best-requires-clause-others : goal.best_among-best-requires-clause-others
best_among-best-requires-clause-others g c =
    ap (list_all is_spelled) c.as_slice.ensures
    ∙ ap (λ (r : Report). list_all is_spelled r.certificates) c.report.ensures
    ∙ report-spelled (map g.R.BringsReport.brought c.args.reports.now) c.loop-holder.holder-index
    (g.R.BringsReport.brought c.holder-item.result) c.requires
    (below_mapped g.R.BringsReport.brought c.args.reports.now c.loop-holder.holder-index c.loop-holder-test.true)
    (mapped_at g.R.BringsReport.brought c.args.reports.now c.loop-holder.holder-index c.holder-item.result
    c.loop-holder-test.true c.holder-item.is)

pub loop-holder-preserved : goal.loop-holder-preserved
loop-holder-preserved g c = (
  c.best_among-best.ensures.best
      (certificates_of (take c.loop-holder.holder-index (map g.R.BringsReport.brought c.args.reports.now)))
      c.loop-holder.invariant.0
      ∙ ap (λ (xs : List Certificate). best_by goes_before
      (filter (is_for c.args.s)
      (certificates_of (take c.loop-holder.holder-index (map g.R.BringsReport.brought c.args.reports.now)) ++ xs)))
      (c.as_slice.ensures ∙ ap (λ (r : Report). r.certificates) c.report.ensures)
      ∙ ap (λ (xs : List Certificate). best_by goes_before (filter (is_for c.args.s) xs))
      (certificates_of-more (map g.R.BringsReport.brought c.args.reports.now) c.loop-holder.holder-index
      (g.R.BringsReport.brought c.holder-item.result)
      (below_mapped g.R.BringsReport.brought c.args.reports.now c.loop-holder.holder-index c.loop-holder-test.true)
      (mapped_at g.R.BringsReport.brought c.args.reports.now c.loop-holder.holder-index c.holder-item.result
      c.loop-holder-test.true c.holder-item.is)),
  c.best_among-best.ensures.spelled,
)

pub returns : goal.returns
returns g c =
    c.loop-holder.invariant.0
    ∙ ap (λ (rs : List Report). best_by goes_before (filter (is_for c.args.s) (certificates_of rs)))
    (take_all_mapped g.R.BringsReport.brought c.args.reports.now c.loop-holder.holder-index
    c.loop-holder-test.false)
    ∙ chosen-is (map g.R.BringsReport.brought c.args.reports.now) c.args.s
