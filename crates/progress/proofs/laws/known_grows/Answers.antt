use Rattle.progress.proofs.Arriving.{known_grows}
use Rattle.progress.proofs.laws.known_grows.Goals as goal

pub returns : goal.returns
returns c = known_grows
