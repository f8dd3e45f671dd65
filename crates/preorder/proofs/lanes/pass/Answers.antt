use Rattle.std.proofs.Common.{rules}
use Rattle.protocol_rules.specs.Group.{most_number}
use Rattle.preorder.proofs.lanes.pass.Goals as goal

pub overflow_add-lane : goal.overflow_add-lane
unfolding most_number
overflow_add-lane c = search rules
