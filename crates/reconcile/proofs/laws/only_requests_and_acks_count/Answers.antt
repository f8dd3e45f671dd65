use Rattle.reconcile.proofs.Passed.{gifts_alone, other_passed}
use Rattle.reconcile.proofs.laws.only_requests_and_acks_count.Goals as goal

pub returns-clause-gifts : goal.returns-clause-gifts
returns-clause-gifts c = gifts_alone

pub returns-clause-others : goal.returns-clause-others
returns-clause-others c = other_passed
