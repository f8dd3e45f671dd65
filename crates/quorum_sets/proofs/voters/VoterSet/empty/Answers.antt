use Rattle.std.proofs.Common.{refl}
use Rattle.quorum_sets.specs.Masters.{numbers_below}
use Rattle.quorum_sets.proofs.voters.VoterSet.empty.Goals as goal

pub returns : goal.returns
unfolding numbers_below
returns c = refl
