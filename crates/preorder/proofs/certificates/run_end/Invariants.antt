use Rattle.std.proofs.Common.{◌-◌}
use Rattle.preorder.specs.Index.{at_pair, ReachesLess}
use Rattle.preorder.proofs.certificates.run_end.Given as goal

-- what was passed is certified without a gap
abbrev pub invariant-loop-end : goal.invariant-loop-end
invariant-loop-end l = ReachesLess (λ k. at_pair l.certificates.entries (l.j, k)) l.start →
    ReachesLess (λ k. at_pair l.certificates.entries (l.j, k)) l.end

abbrev pub decreases-loop-end : goal.decreases-loop-end
decreases-loop-end l = 4096 - l.end
