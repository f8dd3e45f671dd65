use Rattle.words_in_place.proofs.Spelled.{rows_in_place_fit}
use Rattle.words_in_place.proofs.laws.rows_in_place_fit.Goals as goal

pub returns : goal.returns
returns c = rows_in_place_fit
