use Rattle.joint_lists.proofs.Joined.{next_may_join}
use Rattle.joint_lists.proofs.next_may_join.Goals as goal

pub returns : goal.returns
returns c = next_may_join
