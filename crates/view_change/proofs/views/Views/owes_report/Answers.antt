use Rattle.std.proofs.Common.{◌∙◌}
use Rattle.view_change.proofs.Answering.{report_owed-is}
use Rattle.view_change.proofs.views.Views.owes_report.Goals as goal

pub returns : goal.returns
returns c = λ g me known said is. c.is_report_owed.ensures ∙ report_owed-is g me c.args.self.now known said is
