use Rattle.words_in_place.proofs.Speaking.{known_stays_in_place}
use Rattle.words_in_place.proofs.laws.known_stays_in_place.Goals as goal

pub returns : goal.returns
returns c = known_stays_in_place
