use Rattle.agreement.proofs.SaidOneWay.{prepares_once}
use Rattle.agreement.proofs.laws.prepares_once.Goals as goal

pub returns : goal.returns
returns c = prepares_once
