-- All numbers up to this one are ordered, if they were up to the start.
use Rattle.std.proofs.Common.{◌-◌, ◌≤◌, nat_eq}
use Rattle.indexmap.specs.IndexMap.{get}
use Rattle.global_order.specs.Index.{order_in, ReachesLess}
use Rattle.global_order.proofs.orders.run_end.Given as goal

-- what was passed is ordered without a gap
abbrev pub invariant-loop-end : goal.invariant-loop-end
invariant-loop-end l = record {
  reaches : ReachesLess (λ s. order_in (get nat_eq l.orders s)) l.start →
      ReachesLess (λ s. order_in (get nat_eq l.orders s)) l.end;
  grows : l.start ≤ l.end;
}

abbrev pub decreases-loop-end : goal.decreases-loop-end
decreases-loop-end l = 4096 - l.end
