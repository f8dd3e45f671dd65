use Rattle.reconcile.proofs.Taken.{only_said}
use Rattle.reconcile.proofs.laws.only_asks_and_gifts_count.Goals as goal

pub returns : goal.returns
returns c = only_said
