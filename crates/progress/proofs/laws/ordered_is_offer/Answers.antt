use Rattle.progress.proofs.Settled.{ordered_is_offer}
use Rattle.progress.proofs.laws.ordered_is_offer.Goals as goal

pub returns : goal.returns
returns c = ordered_is_offer
