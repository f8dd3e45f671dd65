use Rattle.world_rules.proofs.Fields.{orders_go_by_plant}
use Rattle.world_rules.proofs.laws.orders_go_by_plant.Goals as goal

pub returns : goal.returns
returns c = orders_go_by_plant
