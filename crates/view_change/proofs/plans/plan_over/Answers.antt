-- Each turn adds the rows of the next number above the base, up to the last that has a certificate. Where that
-- one isn't above the base the plan has no rows.
use Rattle.std.proofs.Common.{map, ◌∙◌, arith}
use Rattle.view_change.proofs.Best.{plan-start, plan-more, plan-is}
use Rattle.view_change.proofs.plans.plan_over.Goals as goal

pub loop-step-init : goal.loop-step-init
loop-step-init g c = λ h n. c.new-rows.ensures ∙ plan-start h (map g.R.BringsReport.brought c.args.reports.now) _

pub loop-step-preserved : goal.loop-step-preserved
loop-step-preserved g c = λ h n.
    c.in_ok-push.ensures.ok ∙ plan-more h (map g.R.BringsReport.brought c.args.reports.now)
    c.greatest_base-base.result c.loop-step.step c.loop-step.rows c.in_ok-next.next (c.loop-step.invariant h n)
    (c.in_ok-next.ensures h n)

pub returns : goal.returns
returns g c = λ h n.
    plan-is h (map g.R.BringsReport.brought c.args.reports.now) c.greatest_base-base.result c.last_number.result
    c.loop-step.step c.loop-step.rows c.greatest_base-base.ensures c.last_number.ensures
    (omega (arith, c.saturating_sub-count.ensures)) (c.loop-step.invariant h n)
