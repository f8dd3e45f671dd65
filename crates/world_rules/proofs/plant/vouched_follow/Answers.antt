use Rattle.world_rules.proofs.Following.{vouched_follow}
use Rattle.world_rules.proofs.plant.vouched_follow.Goals as goal

pub returns : goal.returns
returns c = vouched_follow
