use Rattle.world_history.proofs.MasterSpeaks.{master_is_handed}
use Rattle.world_history.proofs.laws.master_is_handed.Goals as goal

pub returns : goal.returns
returns c = master_is_handed
