use Rattle.world_rules.proofs.Signed.{signatures_sign}
use Rattle.world_rules.proofs.laws.signatures_sign.Goals as goal

pub returns : goal.returns
returns c = signatures_sign
