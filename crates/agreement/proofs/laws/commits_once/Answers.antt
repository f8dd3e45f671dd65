use Rattle.agreement.proofs.SaidOneWay.{commits_once}
use Rattle.agreement.proofs.laws.commits_once.Goals as goal

pub returns : goal.returns
returns c = commits_once
