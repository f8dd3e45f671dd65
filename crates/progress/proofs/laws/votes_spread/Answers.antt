use Rattle.progress.proofs.Leaving.{votes_spread}
use Rattle.progress.proofs.laws.votes_spread.Goals as goal

pub returns : goal.returns
returns c = votes_spread
