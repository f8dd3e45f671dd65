use Rattle.printed_laws.proofs.PlaysReadBack.{played_texts_read_back}
use Rattle.printed_laws.proofs.played_texts_read_back.Goals as goal

pub returns : goal.returns
returns c = played_texts_read_back
