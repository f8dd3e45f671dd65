use Rattle.history_examples.proofs.Changed.{executed_after_change_of_view}
use Rattle.history_examples.proofs.examples.executed_after_change_of_view.Goals as goal

pub returns : goal.returns
returns c = executed_after_change_of_view
