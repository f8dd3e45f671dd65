use Rattle.progress.proofs.Marked.{ordered_is_marked}
use Rattle.progress.proofs.laws.ordered_is_marked.Goals as goal

pub returns : goal.returns
returns c = ordered_is_marked
