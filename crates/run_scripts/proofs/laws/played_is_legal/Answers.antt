use Rattle.run_scripts.proofs.PlaysAreLegal.{played_is_legal}
use Rattle.run_scripts.proofs.laws.played_is_legal.Goals as goal

pub returns : goal.returns
returns c = played_is_legal
