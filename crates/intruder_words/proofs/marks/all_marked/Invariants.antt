use Rattle.std.proofs.Common.{◌≡◌, take}
use Rattle.intruder_words.specs.Marking.{all_marked}
use Rattle.intruder_words.proofs.marks.all_marked.Given as goal

abbrev pub invariant-loop-frame : goal.invariant-loop-frame
invariant-loop-frame l = l.marks.items ≡ all_marked (take l.frame-index l.known)
