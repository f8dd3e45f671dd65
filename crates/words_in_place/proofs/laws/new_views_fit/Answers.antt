use Rattle.words_in_place.proofs.Spelled.{new_views_fit}
use Rattle.words_in_place.proofs.laws.new_views_fit.Goals as goal

pub returns : goal.returns
returns c = new_views_fit
