use Rattle.master_node.proofs.Histories.{keeps_its_charge}
use Rattle.master_node.proofs.laws.keeps_its_charge.Goals as goal

pub returns : goal.returns
returns c = keeps_its_charge
