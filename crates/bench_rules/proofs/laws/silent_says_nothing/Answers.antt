use Rattle.bench_rules.proofs.HeardEvents.{silent_says_nothing}
use Rattle.bench_rules.proofs.laws.silent_says_nothing.Goals as goal

pub returns : goal.returns
returns c = silent_says_nothing
