use Rattle.progress.proofs.Voting.{prepares_arrive}
use Rattle.progress.proofs.laws.prepares_arrive.Goals as goal

pub returns : goal.returns
returns c = prepares_arrive
