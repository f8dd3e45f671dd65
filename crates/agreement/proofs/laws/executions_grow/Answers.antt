use Rattle.agreement.proofs.VouchedIsOrdered.{executions_grow}
use Rattle.agreement.proofs.laws.executions_grow.Goals as goal

pub returns : goal.returns
returns c = executions_grow
