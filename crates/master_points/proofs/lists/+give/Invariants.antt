use Rattle.std.proofs.Common.{length}
use Rattle.master_points.proofs.lists.+give.Given as goal

abbrev pub decreases-give : goal.decreases-give
decreases-give l = length l.orders.now
