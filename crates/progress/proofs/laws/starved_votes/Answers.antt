use Rattle.progress.proofs.Impatient.{starved_votes}
use Rattle.progress.proofs.laws.starved_votes.Goals as goal

pub returns : goal.returns
returns c = starved_votes
