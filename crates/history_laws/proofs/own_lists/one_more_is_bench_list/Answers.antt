use Rattle.history_laws.proofs.BenchLists.{one_more_is_bench_list}
use Rattle.history_laws.proofs.own_lists.one_more_is_bench_list.Goals as goal

pub returns : goal.returns
returns c = one_more_is_bench_list
