use Rattle.run_scripts.proofs.UnforgedPlay.{played_is_unforged}
use Rattle.run_scripts.proofs.laws.played_is_unforged.Goals as goal

pub returns : goal.returns
returns c = played_is_unforged
