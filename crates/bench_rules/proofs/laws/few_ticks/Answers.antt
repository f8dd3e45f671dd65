use Rattle.bench_rules.proofs.HeardEvents.{few_ticks}
use Rattle.bench_rules.proofs.laws.few_ticks.Goals as goal

pub returns : goal.returns
returns c = few_ticks
