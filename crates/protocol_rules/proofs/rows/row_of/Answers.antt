use Rattle.std.proofs.Common.{◌∙◌}
use Rattle.std.proofs.lemmas.Result.{IfOk-weaker}
use Rattle.protocol_rules.proofs.SummaryRows.{row-found, row-missing}
use Rattle.protocol_rules.proofs.rows.row_of.Goals as goal

pub returns-in-Some : goal.returns-in-Some
returns-in-Some c = IfOk-weaker c.copy.result _ _
    (λ row is. is ∙ row-found c.args.frames.now c.args.master c.in-Some.frame.now c.in-Some.ensures) c.copy.ensures

pub returns-in-None : goal.returns-in-None
returns-in-None c = c.new.ensures ∙ row-missing c.args.frames.now c.args.master c.in-None.ensures
