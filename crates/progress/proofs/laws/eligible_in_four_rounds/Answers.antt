use Rattle.progress.proofs.Joined.{eligible_in_four_rounds}
use Rattle.progress.proofs.laws.eligible_in_four_rounds.Goals as goal

pub returns : goal.returns
returns c = eligible_in_four_rounds
