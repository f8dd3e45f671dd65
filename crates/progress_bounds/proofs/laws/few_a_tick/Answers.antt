use Rattle.progress_bounds.proofs.ATick.{few_a_tick}
use Rattle.progress_bounds.proofs.laws.few_a_tick.Goals as goal

pub returns : goal.returns
returns c = few_a_tick
