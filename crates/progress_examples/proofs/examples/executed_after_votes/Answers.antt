use Rattle.progress_examples.proofs.ChangeOfView.{executed_after_votes}
use Rattle.progress_examples.proofs.examples.executed_after_votes.Goals as goal

pub returns : goal.returns
returns c = executed_after_votes
