use Rattle.master_node.proofs.Histories.{silent_say_nothing}
use Rattle.master_node.proofs.laws.silent_say_nothing.Goals as goal

pub returns : goal.returns
returns c = silent_say_nothing
