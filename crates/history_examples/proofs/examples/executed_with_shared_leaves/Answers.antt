use Rattle.history_examples.proofs.Shared.{executed_with_shared_leaves}
use Rattle.history_examples.proofs.examples.executed_with_shared_leaves.Goals as goal

pub returns : goal.returns
returns c = executed_with_shared_leaves
