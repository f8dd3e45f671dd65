use Rattle.progress.proofs.Arriving.{words_arrive}
use Rattle.progress.proofs.laws.words_arrive.Goals as goal

pub returns : goal.returns
returns c = words_arrive
