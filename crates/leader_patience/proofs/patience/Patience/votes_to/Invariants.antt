use Rattle.std.proofs.Common.{◌≡◌, map}
use Rattle.std.specs.List.{slice_index_or}
use Rattle.quorum_sets.specs.Masters.{numbers_below}
use Rattle.protocol_rules.specs.Words.{in_order}
use Rattle.leader_patience.proofs.patience.Patience.votes_to.Given as goal

abbrev pub invariant-loop-master : goal.invariant-loop-master
invariant-loop-master l = l.ends ≡ in_order (map (λ j. slice_index_or l.fn.self.voted j 0) (numbers_below l.master))
