use Rattle.progress.proofs.OrderedThere.{certified_is_ordered}
use Rattle.progress.proofs.laws.certified_is_ordered.Goals as goal

pub returns : goal.returns
returns c = certified_is_ordered
