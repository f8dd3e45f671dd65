use Rattle.agreement.proofs.SaidOneWay.{proposes_once}
use Rattle.agreement.proofs.laws.proposes_once.Goals as goal

pub returns : goal.returns
returns c = proposes_once
