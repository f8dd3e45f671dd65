use Rattle.history_examples.proofs.Plain.{something_is_executed}
use Rattle.history_examples.proofs.examples.something_is_executed.Goals as goal

pub returns : goal.returns
returns c = something_is_executed
