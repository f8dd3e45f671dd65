use Rattle.progress_examples.proofs.VoteSplit.{votes_dont_spread}
use Rattle.progress_examples.proofs.examples.votes_dont_spread.Goals as goal

pub returns : goal.returns
returns c = votes_dont_spread
