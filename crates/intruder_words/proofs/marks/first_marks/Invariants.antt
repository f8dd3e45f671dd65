use Rattle.std.proofs.Common.{◌≡◌}
use Rattle.std.specs.List.{filter_map}
use Rattle.quorum_sets.specs.Masters.{numbers_below}
use Rattle.protocol_rules.specs.Words.{first_of_list}
use Rattle.intruder_words.specs.Marking.{mark_of}
use Rattle.intruder_words.proofs.marks.first_marks.Given as goal

abbrev pub invariant-loop-master : goal.invariant-loop-master
invariant-loop-master l = l.marks.items ≡ filter_map (λ m. first_of_list (filter_map (mark_of l.s m) l.known))
    (numbers_below l.master)
