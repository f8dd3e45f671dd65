use Rattle.reconcile.proofs.Joined.{requests_join, numbers_join}
use Rattle.reconcile.proofs.laws.what_is_wanted_is_given.Goals as goal

pub returns-clause-requests : goal.returns-clause-requests
returns-clause-requests c = requests_join

pub returns-clause-numbers : goal.returns-clause-numbers
returns-clause-numbers c = numbers_join
