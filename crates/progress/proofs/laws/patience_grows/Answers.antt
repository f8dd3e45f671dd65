use Rattle.progress.proofs.Growing.{patience_grows}
use Rattle.progress.proofs.laws.patience_grows.Goals as goal

pub returns : goal.returns
returns c = patience_grows
