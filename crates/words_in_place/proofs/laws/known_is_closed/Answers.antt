use Rattle.words_in_place.proofs.Speaking.{known_is_closed}
use Rattle.words_in_place.proofs.laws.known_is_closed.Goals as goal

pub returns : goal.returns
returns c = known_is_closed
