use Rattle.agreement.proofs.ExecutionsAgree.{none_executed_twice}
use Rattle.agreement.proofs.laws.none_executed_twice.Goals as goal

pub returns : goal.returns
returns c = none_executed_twice
