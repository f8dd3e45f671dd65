use Rattle.progress.proofs.Offering.{leader_offers}
use Rattle.progress.proofs.laws.leader_offers.Goals as goal

pub returns : goal.returns
returns c = leader_offers
