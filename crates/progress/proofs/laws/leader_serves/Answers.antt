use Rattle.progress.proofs.LeaderServes.{leader_serves}
use Rattle.progress.proofs.laws.leader_serves.Goals as goal

pub returns : goal.returns
returns c = leader_serves
