use Rattle.progress.proofs.Certifying.{certified_in_a_round}
use Rattle.progress.proofs.laws.certified_in_a_round.Goals as goal

pub returns : goal.returns
returns c = certified_in_a_round
