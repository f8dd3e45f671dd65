use Rattle.words_in_place.proofs.Spelled.{answers_are_spelled}
use Rattle.words_in_place.proofs.laws.answers_are_spelled.Goals as goal

pub returns : goal.returns
returns c = answers_are_spelled
