use Rattle.std.proofs.Common.{length}
use Rattle.checked_frames.proofs.groups.+put_level_above.Given as goal

abbrev pub decreases-put_level_above : goal.decreases-put_level_above
decreases-put_level_above l = length l.nodes.now
