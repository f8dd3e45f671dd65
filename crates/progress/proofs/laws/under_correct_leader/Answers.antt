use Rattle.progress.proofs.UnderLeader.{under_correct_leader}
use Rattle.progress.proofs.laws.under_correct_leader.Goals as goal

pub returns : goal.returns
returns c = under_correct_leader
