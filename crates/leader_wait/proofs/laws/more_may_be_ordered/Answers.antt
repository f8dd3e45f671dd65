use Rattle.leader_wait.proofs.Stretches.{rising}
use Rattle.leader_wait.proofs.laws.more_may_be_ordered.Goals as goal

pub returns : goal.returns
returns c = rising
