use Rattle.progress.proofs.NextGiven.{next_is_given}
use Rattle.progress.proofs.laws.next_is_given.Goals as goal

pub returns : goal.returns
returns c = next_is_given
