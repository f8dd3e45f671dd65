use Rattle.progress.proofs.Leaving.{voted_is_left}
use Rattle.progress.proofs.laws.voted_is_left.Goals as goal

pub returns : goal.returns
returns c = voted_is_left
