use Rattle.progress.proofs.Offers.{requested_is_offer}
use Rattle.progress.proofs.laws.requested_is_offer.Goals as goal

pub returns : goal.returns
returns c = requested_is_offer
