use Rattle.history_examples.proofs.Halted.{executed_without_halted}
use Rattle.history_examples.proofs.examples.executed_without_halted.Goals as goal

pub returns : goal.returns
returns c = executed_without_halted
