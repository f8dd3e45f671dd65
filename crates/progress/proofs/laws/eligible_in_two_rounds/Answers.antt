use Rattle.progress.proofs.Eligible.{eligible_in_two_rounds}
use Rattle.progress.proofs.laws.eligible_in_two_rounds.Goals as goal

pub returns : goal.returns
returns c = eligible_in_two_rounds
