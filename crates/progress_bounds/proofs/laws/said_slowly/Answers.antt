use Rattle.progress_bounds.proofs.Again.{said_slowly}
use Rattle.progress_bounds.proofs.laws.said_slowly.Goals as goal

pub returns : goal.returns
returns c = said_slowly
