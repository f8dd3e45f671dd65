-- View 0 is open at once, and another one is just where a new view of it is known, for which a plan is kept.
use Rattle.std.proofs.Common.{nat_eq, ap, ◌∙◌}
use Rattle.std.specs.Option.{is_some}
use Rattle.view_change.specs.ViewState.{ViewState, at_view}
use Rattle.view_change.proofs.Maps.{at_view-is}
use Rattle.view_change.proofs.Answering.{first-open, later-open}
use Rattle.view_change.proofs.views.Views.is_open.Goals as goal

pub returns-then-self-eq0 : goal.returns-then-self-eq0
returns-then-self-eq0 c = λ g me known said is. ap (λ v. nat_eq v 0) c.if-self-eq0.true
    ∙ first-open g me c.args.self.now known said c.self.inside.view (ap (λ (v : ViewState). v.view) c.self.view_is)
    c.if-self-eq0.true is

pub returns-else-self-eq0 : goal.returns-else-self-eq0
returns-else-self-eq0 c = λ g me known said is.
    c.contains_key.ensures ∙ ap is_some (at_view-is c.self.inside.plans c.self.inside.view)
    ∙ ap (λ (v : ViewState). is_some (at_view v.plans c.self.inside.view)) c.self.view_is
    ∙ later-open g me c.args.self.now known said c.self.inside.view (ap (λ (v : ViewState). v.view) c.self.view_is)
    c.if-self-eq0.false is
