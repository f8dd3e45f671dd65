use Rattle.blame_check.proofs.Worth.{named_stand}
use Rattle.blame_check.proofs.laws.named_stand.Goals as goal

pub returns : goal.returns
returns c = named_stand
