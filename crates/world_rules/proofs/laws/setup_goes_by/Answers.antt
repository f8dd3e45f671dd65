use Rattle.world_rules.proofs.Fields.{setup_goes_by}
use Rattle.world_rules.proofs.laws.setup_goes_by.Goals as goal

pub returns : goal.returns
returns c = setup_goes_by
