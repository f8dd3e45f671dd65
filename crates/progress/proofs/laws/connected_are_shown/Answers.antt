use Rattle.progress.proofs.Shown.{connected_are_shown}
use Rattle.progress.proofs.laws.connected_are_shown.Goals as goal

pub returns : goal.returns
returns c = connected_are_shown
