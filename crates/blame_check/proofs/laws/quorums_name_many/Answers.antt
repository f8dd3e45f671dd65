use Rattle.blame_check.proofs.Worth.{quorums_name_many}
use Rattle.blame_check.proofs.laws.quorums_name_many.Goals as goal

pub returns : goal.returns
returns c = quorums_name_many
