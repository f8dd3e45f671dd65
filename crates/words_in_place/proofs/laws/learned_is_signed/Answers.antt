use Rattle.words_in_place.proofs.Signing.{learned_is_signed}
use Rattle.words_in_place.proofs.laws.learned_is_signed.Goals as goal

pub returns : goal.returns
returns c = learned_is_signed
