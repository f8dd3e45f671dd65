use Rattle.progress.proofs.Preparing.{offered_is_prepared}
use Rattle.progress.proofs.laws.offered_is_prepared.Goals as goal

pub returns : goal.returns
returns c = offered_is_prepared
