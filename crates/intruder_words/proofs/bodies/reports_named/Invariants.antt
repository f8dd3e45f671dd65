use Rattle.std.proofs.Common.{◌≡◌, Some, map, take}
use Rattle.intruder_words.specs.Speaking.{all_of, report_named}
use Rattle.intruder_words.proofs.bodies.reports_named.Given as goal

abbrev pub invariant-loop-which : goal.invariant-loop-which
invariant-loop-which l = all_of (map (report_named l.known) (take l.which-index l.all)) ≡ Some l.reports
