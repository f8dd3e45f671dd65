use Rattle.history_laws.proofs.LeavesSignOnce.{leaf_signs_one_group}
use Rattle.history_laws.proofs.own_lists.leaf_signs_one_group.Goals as goal

pub returns : goal.returns
returns c = leaf_signs_one_group
