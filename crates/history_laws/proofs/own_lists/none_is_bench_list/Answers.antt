use Rattle.history_laws.proofs.BenchLists.{none_is_bench_list}
use Rattle.history_laws.proofs.own_lists.none_is_bench_list.Goals as goal

pub returns : goal.returns
returns c = none_is_bench_list
