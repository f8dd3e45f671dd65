-- Kept for the numbers gone over, so that after the last one the bodies are all whole orders due. That no ask
-- is among them is what counting them as given needs.
use Rattle.std.proofs.Common.{◌≡◌, take, false}
use Rattle.std.specs.List.{list_any, flat_map}
use Rattle.reconcile.specs.declared.wanted.Wanted.{Wanted}
use Rattle.reconcile.specs.Asking.{asks}
use Rattle.global_order.specs.OrderState.{Where}
use Rattle.reconcile.specs.Giving.{order_given, numbers_in}
use Rattle.master_answers.proofs.giving.whole_orders.Given as goal

-- the orders of the numbers gone over so far are there, and no asks
abbrev pub invariant-loop-s : goal.invariant-loop-s
invariant-loop-s l = record {
  all : l.s-items ≡ numbers_in l.wanted;
  given : Where l.order (λ g facts ordered. l.bodies.items ≡ flat_map (order_given g facts) (take l.s-index l.s-items));
  no_asks : (w : Wanted) → list_any (asks w) l.bodies.items ≡ false;
}
