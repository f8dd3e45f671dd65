use Rattle.agreement.proofs.SaidOneWay.{acknowledges_once}
use Rattle.agreement.proofs.laws.acknowledges_once.Goals as goal

pub returns : goal.returns
returns c = acknowledges_once
