use Rattle.progress.proofs.Saying.{all_is_said}
use Rattle.progress.proofs.laws.all_is_said.Goals as goal

pub returns : goal.returns
returns c = all_is_said
