-- A report brings itself, so the plan over all that bring reports is for a list of reports that of the list.
use Rattle.std.proofs.Common.{◌≡◌, List, ap, subst, ◌∙◌}
use Rattle.std.specs.Result.{IfOk}
use Rattle.message_types.specs.declared.views.Report.{Report}
use Rattle.protocol_rules.specs.Group.{Group}
use Rattle.protocol_rules.specs.Plans.{plan_of}
use Rattle.view_change.specs.Planning.{are_spelled}
use Rattle.view_change.proofs.Best.{map_itself}
use Rattle.view_change.proofs.plans.plan_of.Goals as goal

pub plan_over-requires : goal.plan_over-requires
plan_over-requires c = ap are_spelled (map_itself c.args.reports.now) ∙ c.requires

pub returns : goal.returns
returns c = subst (λ (rs : List Report). IfOk c.plan_over.result (λ plan. (g : Group) → c.args.sizes.now.n ≡ g.n →
    plan ≡ plan_of g rs)) (map_itself c.args.reports.now) c.plan_over.ensures
