use Rattle.std.proofs.Common.{◌≡◌, length}
use Rattle.std.specs.List.{slice_index_or}
use Rattle.std.proofs.Common.{false}
use Rattle.quorum_sets.specs.Masters.{voters}
use Rattle.quorum_sets.proofs.voters.VoterSet.count_below.Given as goal

abbrev pub invariant-loop-master : goal.invariant-loop-master
invariant-loop-master l = l.count ≡ length (voters (λ m. slice_index_or l.self-inside.marked m false) l.master)
