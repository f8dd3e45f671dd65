use Rattle.progress.proofs.Marked.{offer_is_stable}
use Rattle.progress.proofs.laws.offer_is_stable.Goals as goal

pub returns : goal.returns
returns c = offer_is_stable
