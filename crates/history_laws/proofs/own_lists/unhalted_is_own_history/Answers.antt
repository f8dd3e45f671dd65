use Rattle.history_laws.proofs.BenchLists.{unhalted_is_own_history}
use Rattle.history_laws.proofs.own_lists.unhalted_is_own_history.Goals as goal

pub returns : goal.returns
returns c = unhalted_is_own_history
