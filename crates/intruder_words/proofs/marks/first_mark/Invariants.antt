use Rattle.std.proofs.Common.{◌≡◌, [], take}
use Rattle.std.specs.List.{filter_map}
use Rattle.intruder_words.specs.Marking.{mark_of}
use Rattle.intruder_words.proofs.marks.first_mark.Given as goal

abbrev pub invariant-loop-frame : goal.invariant-loop-frame
invariant-loop-frame l = filter_map (mark_of l.s l.master) (take l.frame-index l.known) ≡ []
