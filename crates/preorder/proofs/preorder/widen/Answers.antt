use Rattle.std.proofs.Common.{rules}
use Rattle.protocol_rules.specs.Group.{most_number}
use Rattle.preorder.proofs.preorder.widen.Goals as goal

pub overflow_add-k : goal.overflow_add-k
unfolding most_number
overflow_add-k c = search rules
