use Rattle.words_by_part.proofs.Telling.{own_words_tell}
use Rattle.words_by_part.proofs.laws.own_words_tell.Goals as goal

pub returns : goal.returns
returns c = own_words_tell
