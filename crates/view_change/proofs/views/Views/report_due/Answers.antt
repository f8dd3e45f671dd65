-- A report is due exactly where one is owed, and then it is that of the view, with copies of marks and certificates.
use Rattle.std.proofs.Common.{ap, sym, ◌∙◌}
use Rattle.view_change.specs.ViewState.{ViewState}
use Rattle.view_change.proofs.Answering.{no_report, one_report}
use Rattle.view_change.proofs.views.Views.report_due.Goals as goal

pub returns-then-not-is_report_owed : goal.returns-then-not-is_report_owed
returns-then-not-is_report_owed c = λ g me known said is.
    no_report g me c.args.self.now known said c.args.base c.args.marks.now c.args.certificates.now
    (sym c.is_report_owed.ensures ∙ c.if-not-is_report_owed.true) is

pub returns : goal.returns
returns c = λ g me known said is.
    one_report g me c.args.self.now known said _ c.args.base c.args.marks.now _ c.args.certificates.now _
    (sym c.is_report_owed.ensures ∙ c.if-not-is_report_owed.false) (ap (λ (v : ViewState). v.view) c.self.view_is)
    c.in_ok-from_slice.ensures c.in_ok-from_slice-2.ensures is
