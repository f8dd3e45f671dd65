use Rattle.bench_rules.proofs.HeardEvents.{heard_same}
use Rattle.bench_rules.proofs.laws.heard_same.Goals as goal

pub returns : goal.returns
returns c = heard_same
