use Rattle.std.proofs.Common.{length}
use Rattle.suspect_leader.proofs.answers.+count.Given as goal

abbrev pub decreases-count : goal.decreases-count
decreases-count l = length l.bodies.now
