use Rattle.history_laws.proofs.BenchLists.{own_history_is_bench_list}
use Rattle.history_laws.proofs.own_lists.own_history_is_bench_list.Goals as goal

pub returns : goal.returns
returns c = own_history_is_bench_list
