-- Only the first new view of a view there is counts: its plan is kept, and the present view is at least that
-- one. A later one changes neither.
use Rattle.std.proofs.Common.{◌≡◌, true, Some, max, nat_eq, ap, sym, ◌∙◌, arith, if◌then◌else◌}
use Rattle.std.specs.Option.{is_some}
use Rattle.protocol_rules.specs.Group.{most_view}
use Rattle.view_change.specs.ViewState.{ViewState, at_view}
use Rattle.view_change.proofs.Maps.{at_view-is, view_put}
use Rattle.protocol_rules.proofs.LimitValues.{most_view-is}
use Rattle.view_change.proofs.Known.{new_view-passed, new_view-taken}
use Rattle.view_change.proofs.views.Views.take_new_view.Goals.{then-v-gt-MOST_VIEW-via-then-v-gt-MOST_VIEW}
use Rattle.view_change.proofs.views.Views.take_new_view.Goals.{then-v-gt-MOST_VIEW-via-else-v-gt-MOST_VIEW+then-contains_key}
use Rattle.view_change.proofs.views.Views.take_new_view.Goals as goal

pub returns-then-v-gt-MOST_VIEW-clause-ok : goal.returns-then-v-gt-MOST_VIEW-clause-ok
returns-then-v-gt-MOST_VIEW-clause-ok c = λ within g me known said is.
    let top : most_view ≡ 255 = most_view-is in
    let there : is_some (at_view c.self.inside.plans.entries c.args.frame.now.body.v) ≡ true =
    elim c.then-v-gt-MOST_VIEW.branch [
      | then-v-gt-MOST_VIEW-via-then-v-gt-MOST_VIEW w ↦ absurd (omega (arith, w.if-v-gt-MOST_VIEW.true))
      | then-v-gt-MOST_VIEW-via-else-v-gt-MOST_VIEW+then-contains_key w ↦
          sym (ap is_some (at_view-is c.self.inside.plans c.args.frame.now.body.v)) ∙ sym w.contains_key.ensures
          ∙ w.if-contains_key.true
    ] in
    new_view-passed g me c.args.self.now known said c.args.frame.now
    (ap (λ (v : ViewState). is_some (at_view v.plans c.args.frame.now.body.v)) (sym c.self.view_is) ∙ there)
    is

pub returns-clause-passed : goal.returns-clause-passed
returns-clause-passed c = λ out. let top : most_view ≡ 255 = most_view-is in
    absurd (omega (arith, c.if-v-gt-MOST_VIEW.false))

pub returns-clause-ok : goal.returns-clause-ok
returns-clause-ok c = λ within g me known said is.
    new_view-taken g me c.args.self.now _ known said c.args.frame.now c.in_ok-plan.plan
    (ap (λ (v : ViewState). is_some (at_view v.plans c.args.frame.now.body.v)) (sym c.self.view_is)
    ∙ sym (ap is_some (at_view-is c.self.inside.plans c.args.frame.now.body.v)) ∙ sym c.contains_key.ensures
    ∙ c.if-contains_key.false)
    (c.in_ok-plan.ensures g (ap (λ (v : ViewState). v.group.n) c.self.view_is ∙ is.masters)) within
    (ap (λ (v : ViewState). v.group) c.self.view_is) (ap (λ (v : ViewState). v.me) c.self.view_is)
    (c.max-self-inside.ensures ∙ ap (λ (v : ViewState). max v.view c.args.frame.now.body.v) c.self.view_is)
    (ap (λ (v : ViewState). v.suspects) c.self.view_is) (ap (λ (v : ViewState). v.reports) c.self.view_is)
    (λ w. view_put c.self.inside.plans c.insert.new.self c.args.frame.now.body.v c.in_ok-plan.plan
    c.in_ok-insert.ensures.updates w
    ∙ ap (λ (v : ViewState). if nat_eq c.args.frame.now.body.v w then Some c.in_ok-plan.plan else
    at_view v.plans w) c.self.view_is)
    (ap (λ (v : ViewState). v.reported) c.self.view_is) (ap (λ (v : ViewState). v.opened) c.self.view_is)
    is
