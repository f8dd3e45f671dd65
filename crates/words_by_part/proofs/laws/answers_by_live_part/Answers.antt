use Rattle.words_by_part.proofs.Answering.{answers_by_live_part}
use Rattle.words_by_part.proofs.laws.answers_by_live_part.Goals as goal

pub returns : goal.returns
returns c = answers_by_live_part
