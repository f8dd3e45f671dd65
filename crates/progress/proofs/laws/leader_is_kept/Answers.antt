use Rattle.progress.proofs.LeaderServes.{leader_is_kept}
use Rattle.progress.proofs.laws.leader_is_kept.Goals as goal

pub returns : goal.returns
returns c = leader_is_kept
