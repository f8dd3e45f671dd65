use Rattle.world_rules.proofs.Following.{writes_follow}
use Rattle.world_rules.proofs.plant.writes_follow.Goals as goal

pub returns : goal.returns
returns c = writes_follow
