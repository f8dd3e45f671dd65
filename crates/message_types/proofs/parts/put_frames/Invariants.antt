use Rattle.std.proofs.Common.{◌≡◌, ◌++◌, take}
use Rattle.message_types.specs.Parts.{frames_of}
use Rattle.message_types.proofs.parts.put_frames.Given as goal

abbrev pub invariant-loop-frame : goal.invariant-loop-frame
invariant-loop-frame g l = l.out.items ≡ l.fn.out.items ++ frames_of g.B.Inner.kind (take l.frame-index l.frames)
