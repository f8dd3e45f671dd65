use Rattle.progress.proofs.Serving.{served_or_gone}
use Rattle.progress.proofs.laws.served_or_gone.Goals as goal

pub returns : goal.returns
returns c = served_or_gone
