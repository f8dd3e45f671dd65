use Rattle.agreement.proofs.UpdatesAreTaken.{executed_were_said}
use Rattle.agreement.proofs.laws.executed_were_said.Goals as goal

pub returns : goal.returns
returns c = executed_were_said
