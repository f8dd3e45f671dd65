use Rattle.joint_lists.proofs.Same.{same_entries_go_the_same}
use Rattle.joint_lists.proofs.same_entries_go_the_same.Goals as goal

pub returns : goal.returns
returns c = same_entries_go_the_same
