use Rattle.std.proofs.Common.{ap}
use Rattle.world_history.specs.KeptState.{KeptState}
use Rattle.world_history.proofs.kept_actor.Kept.into_bench.Goals as goal

pub returns : goal.returns
returns c = ap (λ (x : KeptState). x.bench) c.self.view_is
