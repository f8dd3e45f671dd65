use Rattle.history_laws.proofs.BenchLists.{intruded_say_nothing}
use Rattle.history_laws.proofs.own_lists.intruded_say_nothing.Goals as goal

pub returns : goal.returns
returns c = intruded_say_nothing
