use Rattle.history_examples.proofs.Relayed.{executed_under_intruded_leader}
use Rattle.history_examples.proofs.examples.executed_under_intruded_leader.Goals as goal

pub returns : goal.returns
returns c = executed_under_intruded_leader
