use Rattle.words_in_place.proofs.Spelled.{certified_are_in_place}
use Rattle.words_in_place.proofs.laws.certified_are_in_place.Goals as goal

pub returns : goal.returns
returns c = certified_are_in_place
