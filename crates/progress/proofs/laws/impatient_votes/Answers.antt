use Rattle.progress.proofs.Impatient.{impatient_votes}
use Rattle.progress.proofs.laws.impatient_votes.Goals as goal

pub returns : goal.returns
returns c = impatient_votes
