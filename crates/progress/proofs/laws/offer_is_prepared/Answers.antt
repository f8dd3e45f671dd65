use Rattle.progress.proofs.Ordered.{offer_is_prepared}
use Rattle.progress.proofs.laws.offer_is_prepared.Goals as goal

pub returns : goal.returns
returns c = offer_is_prepared
