use Rattle.std.proofs.Common.{◌≡◌, ◌≤◌, length}
use Rattle.std.specs.List.{list_any}
use Rattle.quorum_sets.specs.Masters.{voters}
use Rattle.intruder_words.specs.Marking.{is_marked_by}
use Rattle.intruder_words.proofs.marks.is_marked.Given as goal

abbrev pub invariant-loop-master : goal.invariant-loop-master
invariant-loop-master l = (l.count ≡ length (voters (λ m. list_any (is_marked_by l.s m) l.marks) l.master))
    × (l.count ≤ l.master)
