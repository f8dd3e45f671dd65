use Rattle.master_node.proofs.Histories.{ticks_are_heard}
use Rattle.master_node.proofs.laws.ticks_are_heard.Goals as goal

pub returns : goal.returns
returns c = ticks_are_heard
