use Rattle.std.proofs.Common.{◌≡◌, take}
use Rattle.world_history.proofs.frames.standing.Given as goal

abbrev pub invariant-loop-frame : goal.invariant-loop-frame
invariant-loop-frame l = l.checked ≡ take l.frame-index l.frames
