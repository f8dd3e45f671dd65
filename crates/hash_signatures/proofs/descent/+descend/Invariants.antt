use Rattle.std.proofs.Common.{length}
use Rattle.hash_signatures.proofs.descent.+descend.Given as goal

abbrev pub decreases-descend : goal.decreases-descend
decreases-descend l = length l.lower.now
