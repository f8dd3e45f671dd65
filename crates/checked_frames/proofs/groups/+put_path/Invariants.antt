use Rattle.std.proofs.Common.{length}
use Rattle.checked_frames.proofs.groups.+put_path.Given as goal

abbrev pub decreases-put_path : goal.decreases-put_path
decreases-put_path l = length l.levels.now
