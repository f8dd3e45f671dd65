use Rattle.progress.proofs.Proposed.{offered_is_offer}
use Rattle.progress.proofs.laws.offered_is_offer.Goals as goal

pub returns : goal.returns
returns c = offered_is_offer
