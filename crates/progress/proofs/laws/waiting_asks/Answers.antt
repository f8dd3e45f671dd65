use Rattle.progress.proofs.Asked.{waiting_asks}
use Rattle.progress.proofs.laws.waiting_asks.Goals as goal

pub returns : goal.returns
returns c = waiting_asks
