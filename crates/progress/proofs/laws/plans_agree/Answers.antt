use Rattle.progress.proofs.Plans.{plans_agree}
use Rattle.progress.proofs.laws.plans_agree.Goals as goal

pub returns : goal.returns
returns c = plans_agree
