use Rattle.leader_proposals.proofs.Offering.{offers-facts}
use Rattle.leader_proposals.proofs.laws.facts_may_grow.Goals as goal

pub returns : goal.returns
returns c = offers-facts
