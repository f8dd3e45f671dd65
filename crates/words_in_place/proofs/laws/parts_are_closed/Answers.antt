use Rattle.words_in_place.proofs.Speaking.{parts_are_closed}
use Rattle.words_in_place.proofs.laws.parts_are_closed.Goals as goal

pub returns : goal.returns
returns c = parts_are_closed
