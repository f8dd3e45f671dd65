use Rattle.progress.proofs.Kept.{served_is_kept}
use Rattle.progress.proofs.laws.served_is_kept.Goals as goal

pub returns : goal.returns
returns c = served_is_kept
