use Rattle.progress_examples.proofs.NineRounds.{executed_in_nine_rounds}
use Rattle.progress_examples.proofs.examples.executed_in_nine_rounds.Goals as goal

pub returns : goal.returns
returns c = executed_in_nine_rounds
