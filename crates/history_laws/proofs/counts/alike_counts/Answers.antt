use Rattle.history_laws.proofs.Alike.{alike_counts}
use Rattle.history_laws.proofs.counts.alike_counts.Goals as goal

pub returns : goal.returns
returns c = alike_counts
