use Rattle.reconcile.proofs.Passed.{requests_said, numbers_said, wanted_said}
use Rattle.reconcile.proofs.laws.only_gifts_said_count.Goals as goal

pub returns-clause-requests : goal.returns-clause-requests
returns-clause-requests c = requests_said

pub returns-clause-numbers : goal.returns-clause-numbers
returns-clause-numbers c = numbers_said

pub returns-clause-wanted : goal.returns-clause-wanted
returns-clause-wanted c = wanted_said
