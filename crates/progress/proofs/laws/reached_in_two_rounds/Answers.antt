use Rattle.progress.proofs.Reaching.{reached_in_two_rounds}
use Rattle.progress.proofs.laws.reached_in_two_rounds.Goals as goal

pub returns : goal.returns
returns c = reached_in_two_rounds
