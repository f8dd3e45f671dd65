use Rattle.progress.proofs.Worthy.{proposed_is_worth}
use Rattle.progress.proofs.laws.proposed_is_worth.Goals as goal

pub returns : goal.returns
returns c = proposed_is_worth
