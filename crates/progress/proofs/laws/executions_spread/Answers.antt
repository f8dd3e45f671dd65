use Rattle.progress.proofs.Spreading.{executions_spread}
use Rattle.progress.proofs.laws.executions_spread.Goals as goal

pub returns : goal.returns
returns c = executions_spread
