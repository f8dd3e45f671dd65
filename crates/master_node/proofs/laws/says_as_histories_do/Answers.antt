use Rattle.master_node.proofs.Histories.{says_as_histories_do}
use Rattle.master_node.proofs.laws.says_as_histories_do.Goals as goal

pub returns : goal.returns
returns c = says_as_histories_do
