use Rattle.words_in_place.proofs.Speaking.{rows_are_in_place}
use Rattle.words_in_place.proofs.laws.rows_are_in_place.Goals as goal

pub returns : goal.returns
returns c = rows_are_in_place
