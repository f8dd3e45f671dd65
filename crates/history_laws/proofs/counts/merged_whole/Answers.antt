use Rattle.history_laws.proofs.Merged.{merged_whole}
use Rattle.history_laws.proofs.counts.merged_whole.Goals as goal

pub returns : goal.returns
returns c = merged_whole
