use Rattle.words_in_place.proofs.Speaking.{plans_are_in_place}
use Rattle.words_in_place.proofs.laws.plans_are_in_place.Goals as goal

pub returns : goal.returns
returns c = plans_are_in_place
