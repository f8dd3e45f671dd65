use Rattle.blame_check.proofs.Worth.{named_contradict}
use Rattle.blame_check.proofs.laws.named_contradict.Goals as goal

pub returns : goal.returns
returns c = named_contradict
