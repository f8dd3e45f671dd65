use Rattle.history_laws.proofs.Forged.{forged_counts}
use Rattle.history_laws.proofs.counts.forged_counts.Goals as goal

pub returns : goal.returns
returns c = forged_counts
