-- A new view is due exactly where one is owed, and then it is that of the quorum of reports.
use Rattle.std.proofs.Common.{ap, sym, ◌∙◌}
use Rattle.view_change.specs.ViewState.{ViewState}
use Rattle.view_change.proofs.Answering.{no_new_view, one_new_view}
use Rattle.view_change.proofs.views.Views.new_view_due.Goals as goal

pub returns-then-not-owes_new_view : goal.returns-then-not-owes_new_view
returns-then-not-owes_new_view c = λ g me known said is. no_new_view g me c.args.self.now known said
    (sym c.owes_new_view.ensures ∙ c.if-not-owes_new_view.true) is

pub returns : goal.returns
returns c = λ g me known said is.
    one_new_view g me c.args.self.now known said _ _ (sym c.owes_new_view.ensures ∙ c.if-not-owes_new_view.false)
    (ap (λ (v : ViewState). v.view) c.self.view_is) c.in_ok-reports.ensures is
