use Rattle.printed_laws.proofs.PlaysReadBack.{played_is_told}
use Rattle.printed_laws.proofs.played_is_told.Goals as goal

pub returns : goal.returns
returns c = played_is_told
