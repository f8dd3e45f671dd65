use Rattle.world_rules.proofs.Fields.{sizes_of_group}
use Rattle.world_rules.proofs.laws.sizes_of_group.Goals as goal

pub returns : goal.returns
returns c = sizes_of_group
