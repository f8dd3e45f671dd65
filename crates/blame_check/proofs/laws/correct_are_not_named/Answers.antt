use Rattle.blame_check.proofs.Worth.{correct_are_not_named}
use Rattle.blame_check.proofs.laws.correct_are_not_named.Goals as goal

pub returns : goal.returns
returns c = correct_are_not_named
