use Rattle.master_node.proofs.Histories.{nothing_to_sign}
use Rattle.master_node.proofs.laws.nothing_to_sign.Goals as goal

pub returns : goal.returns
returns c = nothing_to_sign
