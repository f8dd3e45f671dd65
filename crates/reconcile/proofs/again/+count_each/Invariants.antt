use Rattle.std.proofs.Common.{length}
use Rattle.reconcile.proofs.again.+count_each.Given as goal

abbrev pub decreases-count_each : goal.decreases-count_each
decreases-count_each l = length l.wanted.now
