use Rattle.world_rules.proofs.Fields.{leaves_of_all}
use Rattle.world_rules.proofs.laws.leaves_of_all.Goals as goal

pub returns : goal.returns
returns c = leaves_of_all
