use Rattle.std.proofs.Common.{◌≡◌, filter, take}
use Rattle.intruder_words.specs.Certifying.{is_about}
use Rattle.intruder_words.proofs.requests.all_about.Given as goal

abbrev pub invariant-loop-frame : goal.invariant-loop-frame
invariant-loop-frame l = l.few.items ≡ filter (is_about l.j l.k) (take l.frame-index l.known)
