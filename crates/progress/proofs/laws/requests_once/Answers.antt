use Rattle.progress.proofs.Requesting.{requests_once}
use Rattle.progress.proofs.laws.requests_once.Goals as goal

pub returns : goal.returns
returns c = requests_once
