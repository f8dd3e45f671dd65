use Rattle.bench_rules.proofs.HeardEvents.{heard_next}
use Rattle.bench_rules.proofs.laws.heard_next.Goals as goal

pub returns : goal.returns
returns c = heard_next
