use Rattle.progress.proofs.Marked.{ordered_is_stable}
use Rattle.progress.proofs.laws.ordered_is_stable.Goals as goal

pub returns : goal.returns
returns c = ordered_is_stable
