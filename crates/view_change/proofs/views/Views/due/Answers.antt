-- The report and the new view are due where the rules have them due, once each. What was pushed is marked for
-- the present view, so that it counts as said.
use Rattle.std.proofs.Common.{◌≡◌, ◌++◌, ◌||◌, false, List, length, set, slice_index_or, ap, ◌∙◌, refl, arith}
use Rattle.std.specs.Option.{option_to_list, is_some}
use Rattle.message_types.specs.declared.body.Body.{Body}
use Rattle.protocol_rules.specs.Views.{report_due}
use Rattle.view_change.specs.ViewState.{ViewState}
use Rattle.view_change.proofs.Said.{counted, both_pushed}
use Rattle.view_change.proofs.views.Views.due.Goals as goal

pub returns-clause-bodies : goal.returns-clause-bodies
returns-clause-bodies c = λ g me known said is.
    both_pushed c.in_ok-report.report c.in_ok-new_view.new_view _ _ _ c.new-bodies.ensures.items
    c.in_ok-reports.ensures.bodies c.in_ok-opens.ensures.bodies
    ∙ ap (λ (xs : List Body). xs ++ option_to_list c.in_ok-new_view.new_view)
    (c.in_ok-report.ensures g me known said is)
    ∙ ap (λ (xs : List Body). report_due g known said c.args.base c.args.marks.now c.args.certificates.now ++ xs)
    (c.in_ok-new_view.ensures g me known said is)

pub returns-clause-counted : goal.returns-clause-counted
returns-clause-counted c = λ g me known said is.
    let view : c.self.inside.view ≡ c.args.self.now.view = ap (λ (v : ViewState). v.view) c.self.view_is in
    let reported : length c.self.inside.reported ≡ length c.args.self.now.reported =
    ap (λ (v : ViewState). length v.reported) c.self.view_is in
    let opened : length c.self.inside.opened ≡ length c.args.self.now.opened =
    ap (λ (v : ViewState). length v.opened) c.self.view_is in
    counted g me c.args.self.now _ known said c.push_if-2.new.bodies.items c.args.base c.args.marks.now
    c.args.certificates.now c.in_ok-report.report c.in_ok-new_view.new_view
    (slice_index_or c.args.self.now.reported c.args.self.now.view false || is_some c.in_ok-report.report)
    (slice_index_or c.args.self.now.opened c.args.self.now.view false || is_some c.in_ok-new_view.new_view)
    (c.in_ok-report.ensures g me known said is) (c.in_ok-new_view.ensures g me known said is)
    (both_pushed c.in_ok-report.report c.in_ok-new_view.new_view _ _ _ c.new-bodies.ensures.items
    c.in_ok-reports.ensures.bodies c.in_ok-opens.ensures.bodies)
    refl refl (omega arith) (omega arith)
    (ap (λ (v : ViewState). v.group) c.self.view_is) (ap (λ (v : ViewState). v.me) c.self.view_is)
    (ap (λ (v : ViewState). v.view) c.self.view_is) (ap (λ (v : ViewState). v.suspects) c.self.view_is)
    (ap (λ (v : ViewState). v.reports) c.self.view_is) (ap (λ (v : ViewState). v.plans) c.self.view_is)
    (c.mark.ensures ∙ ap (λ b. set c.self.inside.reported c.self.inside.view
    (slice_index_or c.self.inside.reported c.self.inside.view false || b)) c.in_ok-reports.ensures.added
    ∙ ap (λ (v : ViewState). set v.reported v.view (slice_index_or v.reported v.view false
    || is_some c.in_ok-report.report)) c.self.view_is)
    (c.mark-2.ensures ∙ ap (λ b. set c.self.inside.opened c.self.inside.view
    (slice_index_or c.self.inside.opened c.self.inside.view false || b)) c.in_ok-opens.ensures.added
    ∙ ap (λ (v : ViewState). set v.opened v.view (slice_index_or v.opened v.view false
    || is_some c.in_ok-new_view.new_view)) c.self.view_is)
    is
