use Rattle.progress.proofs.Serving.{under_serving_leader}
use Rattle.progress.proofs.laws.under_serving_leader.Goals as goal

pub returns : goal.returns
returns c = under_serving_leader
