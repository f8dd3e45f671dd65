use Rattle.progress.proofs.Ordered.{offer_is_ordered}
use Rattle.progress.proofs.laws.offer_is_ordered.Goals as goal

pub returns : goal.returns
returns c = offer_is_ordered
