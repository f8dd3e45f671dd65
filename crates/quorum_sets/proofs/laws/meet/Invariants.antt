use Rattle.std.proofs.Common.{◌≡◌, ◌&&◌, length}
use Rattle.quorum_sets.specs.Masters.{voters, has_master}
use Rattle.quorum_sets.proofs.laws.meet.Given as goal

abbrev pub invariant-loop-master : goal.invariant-loop-master
invariant-loop-master l = l.count ≡ length (voters (λ x. has_master l.a x && has_master l.b x) l.master)
