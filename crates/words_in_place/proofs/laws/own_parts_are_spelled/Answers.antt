use Rattle.words_in_place.proofs.Spelled.{own_parts_are_spelled}
use Rattle.words_in_place.proofs.laws.own_parts_are_spelled.Goals as goal

pub returns : goal.returns
returns c = own_parts_are_spelled
