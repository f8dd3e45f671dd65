use Rattle.progress.proofs.InRounds.{served_in_rounds}
use Rattle.progress.proofs.laws.served_in_rounds.Goals as goal

pub returns : goal.returns
returns c = served_in_rounds
