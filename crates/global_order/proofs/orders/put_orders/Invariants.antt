-- The numbers of the quorums so far took the digest, and the greatest number ordered was raised to them.
use Rattle.std.proofs.Common.{nat_eq, take}
use Rattle.indexmap.specs.IndexMap.{get}
use Rattle.std.specs.List.{list_any}
use Rattle.global_order.specs.Index.{HasHighest, order_in, is_ordering, TakesOrder}
use Rattle.global_order.proofs.orders.put_orders.Given as goal

-- the places of the quorums so far have it
abbrev pub invariant-loop-quorum : goal.invariant-loop-quorum
invariant-loop-quorum l = record {
  orders : TakesOrder (λ s. list_any (is_ordering s l.digest) (take l.quorum-index l.waiting))
      l.digest l.initial.orders l.orders;
  highest : HasHighest (λ s. order_in (get nat_eq l.initial.orders s)) l.highest →
      HasHighest (λ s. order_in (get nat_eq l.orders s)) l.raised;
}
