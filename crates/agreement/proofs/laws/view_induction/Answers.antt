use Rattle.agreement.proofs.ViewsInTurn.{view_induction}
use Rattle.agreement.proofs.laws.view_induction.Goals as goal

pub returns : goal.returns
returns c = view_induction
