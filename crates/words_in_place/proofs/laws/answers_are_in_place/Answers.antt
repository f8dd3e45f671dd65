use Rattle.words_in_place.proofs.Speaking.{answers_are_in_place}
use Rattle.words_in_place.proofs.laws.answers_are_in_place.Goals as goal

pub returns : goal.returns
returns c = answers_are_in_place
