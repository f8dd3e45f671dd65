use Rattle.words_in_place.proofs.Speaking.{ordered_are_in_place}
use Rattle.words_in_place.proofs.laws.ordered_are_in_place.Goals as goal

pub returns : goal.returns
returns c = ordered_are_in_place
