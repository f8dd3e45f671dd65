use Rattle.std.proofs.Common.{◌≡◌, false, nat_lt, get_or}
use Rattle.std.specs.List.{list_any}
use Rattle.quorum_sets.specs.Masters.{numbers_below}
use Rattle.summary_matrix.proofs.reach.Reach.exceeds.Given as goal

abbrev pub invariant-loop-master : goal.invariant-loop-master
invariant-loop-master l = list_any (λ j. nat_lt (get_or l.offered.numbers j 0) (get_or l.self.numbers j 0))
    (numbers_below l.master) ≡ false
