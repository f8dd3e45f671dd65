use Rattle.std.proofs.Common.{length}
use Rattle.hash_signatures.proofs.descent.+total.Given as goal

abbrev pub decreases-total : goal.decreases-total
decreases-total l = length l.heights.now
