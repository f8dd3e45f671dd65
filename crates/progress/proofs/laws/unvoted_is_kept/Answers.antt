use Rattle.progress.proofs.Kept.{unvoted_is_kept}
use Rattle.progress.proofs.laws.unvoted_is_kept.Goals as goal

pub returns : goal.returns
returns c = unvoted_is_kept
