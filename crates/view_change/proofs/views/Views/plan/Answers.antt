-- The plan kept for a view is that of the first new view known of it, and view 0 has the empty one. So it is
-- the plan that the facts known tell.
use Rattle.std.proofs.Common.{Some, ap, sym, ◌∙◌}
use Rattle.std.proofs.lemmas.Bool.{eq-eqb, ne_eqb}
use Rattle.protocol_rules.specs.Facts.{facts_of}
use Rattle.view_change.specs.ViewState.{ViewState, at_view}
use Rattle.view_change.proofs.Maps.{at_view-is}
use Rattle.view_change.proofs.Answering.{plan_known-is, plan_known-first}
use Rattle.view_change.proofs.views.Views.plan.Goals as goal

pub returns-then-v-eq0-clause-known : goal.returns-then-v-eq0-clause-known
returns-then-v-eq0-clause-known c = λ g me known said is. ap Some c.self.invariant.1
    ∙ sym (plan_known-first (facts_of g known) c.args.v (eq-eqb c.args.v 0 c.if-v-eq0.true))

pub returns-clause-known : goal.returns-clause-known
returns-clause-known c = λ g me known said is.
    c.get.ensures.value ∙ at_view-is c.self.inside.plans c.args.v ∙ ap (λ (v : ViewState). at_view v.plans c.args.v)
    c.self.view_is ∙ is.plans c.args.v
    ∙ sym (plan_known-is g known c.args.v (ne_eqb c.args.v 0 c.if-v-eq0.false))

pub returns-clause-first : goal.returns-clause-first
returns-clause-first c = λ g me known said is later. c.get.ensures.value ∙ at_view-is c.self.inside.plans c.args.v
    ∙ ap (λ (v : ViewState). at_view v.plans c.args.v) c.self.view_is ∙ is.plans c.args.v
