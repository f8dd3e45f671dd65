use Rattle.agreement.proofs.ExecutionsAgree.{executions_agree}
use Rattle.agreement.proofs.laws.executions_agree.Goals as goal

pub returns : goal.returns
returns c = executions_agree
