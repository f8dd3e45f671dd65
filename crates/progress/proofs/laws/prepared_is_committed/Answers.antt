use Rattle.progress.proofs.Committing.{prepared_is_committed}
use Rattle.progress.proofs.laws.prepared_is_committed.Goals as goal

pub returns : goal.returns
returns c = prepared_is_committed
