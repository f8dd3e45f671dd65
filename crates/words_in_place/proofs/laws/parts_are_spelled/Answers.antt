use Rattle.words_in_place.proofs.Spelled.{parts_are_spelled}
use Rattle.words_in_place.proofs.laws.parts_are_spelled.Goals as goal

pub returns : goal.returns
returns c = parts_are_spelled
