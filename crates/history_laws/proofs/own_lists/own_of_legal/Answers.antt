use Rattle.history_laws.proofs.OwnEntries.{own_of_legal}
use Rattle.history_laws.proofs.own_lists.own_of_legal.Goals as goal

pub returns : goal.returns
returns c = own_of_legal
