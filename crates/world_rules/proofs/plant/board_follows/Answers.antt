use Rattle.world_rules.proofs.Following.{board_follows}
use Rattle.world_rules.proofs.plant.board_follows.Goals as goal

pub returns : goal.returns
returns c = board_follows
