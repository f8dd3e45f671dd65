use Rattle.progress_bounds.proofs.Once.{said_once}
use Rattle.progress_bounds.proofs.laws.said_once.Goals as goal

pub returns : goal.returns
returns c = said_once
