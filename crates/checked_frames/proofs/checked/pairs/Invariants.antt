use Rattle.std.proofs.Common.{◌≡◌, map}
use Rattle.checked_frames.specs.Standing.{said_by}
use Rattle.checked_frames.proofs.checked.pairs.Given as goal

abbrev pub invariant-loop-frame : goal.invariant-loop-frame
invariant-loop-frame l = l.list.items ≡ map said_by l.yielded
