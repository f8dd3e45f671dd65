use Rattle.std.proofs.Common.{◌≡◌, ◌+◌, take, None}
use Rattle.checked_frames.specs.Standing.{fault_from}
use Rattle.checked_frames.proofs.checked.check_inner.Given as goal

abbrev pub invariant-loop-frame : goal.invariant-loop-frame
invariant-loop-frame l = record {
  number : l.part ≡ l.frame-index + 1;
  faultless : fault_from l.ring 1 (take l.frame-index l.frames) ≡ None;
}
