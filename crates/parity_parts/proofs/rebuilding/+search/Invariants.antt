-- Each call has one part less to choose from.
use Rattle.std.proofs.Common.{length}
use Rattle.parity_parts.proofs.rebuilding.+search.Given as goal

abbrev pub decreases-search : goal.decreases-search
decreases-search l = length l.others.now
