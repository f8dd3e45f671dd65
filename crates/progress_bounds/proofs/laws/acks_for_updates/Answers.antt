use Rattle.progress_bounds.proofs.Acked.{acks_for_updates}
use Rattle.progress_bounds.proofs.laws.acks_for_updates.Goals as goal

pub returns : goal.returns
returns c = acks_for_updates
