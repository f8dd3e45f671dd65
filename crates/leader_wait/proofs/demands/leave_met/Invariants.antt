use Rattle.std.proofs.Common.{◌≡◌, get_or, length}
use Rattle.protocol_rules.specs.Patience.{from_first}
use Rattle.leader_wait.specs.Waiting.{is_unmet}
use Rattle.leader_wait.proofs.demands.leave_met.Given as goal

abbrev pub invariant-loop-demands : goal.invariant-loop-demands
invariant-loop-demands l = from_first (is_unmet l.masters (λ j. get_or l.reach.numbers j 0)) l.demands.items ≡ from_first
    (is_unmet l.masters (λ j. get_or l.reach.numbers j 0)) l.fn.demands.items

abbrev pub decreases-loop-demands : goal.decreases-loop-demands
decreases-loop-demands l = length l.demands.items
