use Rattle.progress.proofs.Introduced.{introduced_in_a_round}
use Rattle.progress.proofs.laws.introduced_in_a_round.Goals as goal

pub returns : goal.returns
returns c = introduced_in_a_round
