-- Each call has one point less.
use Rattle.std.proofs.Common.{length}
use Rattle.parity_parts.proofs.interpolation.+interpolate.Given as goal

abbrev pub decreases-interpolate : goal.decreases-interpolate
decreases-interpolate l = length l.points.now
