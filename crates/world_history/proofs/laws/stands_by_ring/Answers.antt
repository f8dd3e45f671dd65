use Rattle.world_history.proofs.StandingFrames.{stands_by_ring}
use Rattle.world_history.proofs.laws.stands_by_ring.Goals as goal

pub returns : goal.returns
returns c = stands_by_ring
