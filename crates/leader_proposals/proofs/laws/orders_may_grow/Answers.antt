use Rattle.leader_proposals.proofs.Vouching.{counted-more, counted-other}
use Rattle.leader_proposals.proofs.laws.orders_may_grow.Goals as goal

pub returns-clause-more : goal.returns-clause-more
returns-clause-more c = counted-more

pub returns-clause-others : goal.returns-clause-others
returns-clause-others c = counted-other
