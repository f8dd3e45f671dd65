use Rattle.progress.proofs.Voting.{commits_arrive}
use Rattle.progress.proofs.laws.commits_arrive.Goals as goal

pub returns : goal.returns
returns c = commits_arrive
