use Rattle.reconcile.proofs.Taken.{only_asks}
use Rattle.reconcile.proofs.laws.only_asks_count.Goals as goal

pub returns : goal.returns
returns c = only_asks
