use Rattle.world_rules.proofs.Fields.{seed_has_keys}
use Rattle.world_rules.proofs.laws.seed_has_keys.Goals as goal

pub returns : goal.returns
returns c = seed_has_keys
