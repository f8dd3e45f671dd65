use Rattle.leader_proposals.proofs.Vouching.{clients-apart}
use Rattle.leader_proposals.proofs.laws.clients_stand_apart.Goals as goal

pub returns : goal.returns
returns c = clients-apart
