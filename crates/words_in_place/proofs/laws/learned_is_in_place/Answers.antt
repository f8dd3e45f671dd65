use Rattle.words_in_place.proofs.Lasting.{learned_is_in_place}
use Rattle.words_in_place.proofs.laws.learned_is_in_place.Goals as goal

pub returns : goal.returns
returns c = learned_is_in_place
