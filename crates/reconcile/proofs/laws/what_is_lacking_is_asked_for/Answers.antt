use Rattle.reconcile.proofs.Repeated.{order_asks, update_asks}
use Rattle.reconcile.proofs.laws.what_is_lacking_is_asked_for.Goals as goal

pub returns-clause-numbers : goal.returns-clause-numbers
returns-clause-numbers c = order_asks

pub returns-clause-requests : goal.returns-clause-requests
returns-clause-requests c = update_asks
