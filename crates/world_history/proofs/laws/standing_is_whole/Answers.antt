use Rattle.world_history.proofs.StandingFrames.{standing_is_whole}
use Rattle.world_history.proofs.laws.standing_is_whole.Goals as goal

pub returns : goal.returns
returns c = standing_is_whole
