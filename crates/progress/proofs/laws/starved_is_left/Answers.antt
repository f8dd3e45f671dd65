use Rattle.progress.proofs.Serving.{starved_is_left}
use Rattle.progress.proofs.laws.starved_is_left.Goals as goal

pub returns : goal.returns
returns c = starved_is_left
