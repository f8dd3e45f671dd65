use Rattle.world_history.proofs.MasterSpeaks.{master_says}
use Rattle.world_history.proofs.laws.master_says.Goals as goal

pub returns : goal.returns
returns c = master_says
