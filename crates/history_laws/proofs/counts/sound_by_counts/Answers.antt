use Rattle.history_laws.proofs.Sound.{sound_by_counts}
use Rattle.history_laws.proofs.counts.sound_by_counts.Goals as goal

pub returns : goal.returns
returns c = sound_by_counts
