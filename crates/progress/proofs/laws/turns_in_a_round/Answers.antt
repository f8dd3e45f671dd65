use Rattle.progress.proofs.Turned.{turns_in_a_round}
use Rattle.progress.proofs.laws.turns_in_a_round.Goals as goal

pub returns : goal.returns
returns c = turns_in_a_round
