use Rattle.words_in_place.proofs.Speaking.{own_parts_are_in_place}
use Rattle.words_in_place.proofs.laws.own_parts_are_in_place.Goals as goal

pub returns : goal.returns
returns c = own_parts_are_in_place
