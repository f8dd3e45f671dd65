use Rattle.history_laws.proofs.Same.{body_test}
use Rattle.history_laws.proofs.counts.same_bodies.Goals as goal

pub returns : goal.returns
returns c = body_test
