use Rattle.checked_frames.proofs.groups.+put_levels.Given as goal

abbrev pub decreases-put_levels : goal.decreases-put_levels
decreases-put_levels l = l.count
