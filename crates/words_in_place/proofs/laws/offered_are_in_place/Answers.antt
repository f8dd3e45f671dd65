use Rattle.words_in_place.proofs.Speaking.{offered_are_in_place}
use Rattle.words_in_place.proofs.laws.offered_are_in_place.Goals as goal

pub returns : goal.returns
returns c = offered_are_in_place
