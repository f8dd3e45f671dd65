use Rattle.preorder.proofs.Composed.{taken-alike, known-alike, said-alike}
use Rattle.preorder.proofs.laws.only_requests_count.Goals as goal

pub returns-clause-taken : goal.returns-clause-taken
returns-clause-taken c = taken-alike

pub returns-clause-known : goal.returns-clause-known
returns-clause-known c = known-alike

pub returns-clause-said : goal.returns-clause-said
returns-clause-said c = said-alike
