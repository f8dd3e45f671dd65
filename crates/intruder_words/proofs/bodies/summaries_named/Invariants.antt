use Rattle.std.proofs.Common.{◌≡◌, Some, map, take}
use Rattle.intruder_words.specs.Speaking.{all_of, summary_named}
use Rattle.intruder_words.proofs.bodies.summaries_named.Given as goal

abbrev pub invariant-loop-which : goal.invariant-loop-which
invariant-loop-which l = all_of (map (summary_named l.known) (take l.which-index l.all)) ≡ Some l.summaries
