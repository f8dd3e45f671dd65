use Rattle.progress.proofs.Given.{asked_is_given}
use Rattle.progress.proofs.laws.asked_is_given.Goals as goal

pub returns : goal.returns
returns c = asked_is_given
