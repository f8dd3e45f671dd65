use Rattle.tree_keys.proofs.Heights.{leaves_are, leaves_le}
use Rattle.tree_keys.proofs.nodes.leaf_count.Goals as goal

pub returns-clause-fits : goal.returns-clause-fits
returns-clause-fits c = rw (leaves_are c.args.height c.requires) (leaves_le c.args.height c.requires)
