-- Each quorum of this digest has its number take the digest and raises the greatest one; after all of them
-- those of the list have it, as the definition wants.
use Rattle.std.proofs.Common.{◌≡◌, ◌≤◌, ◌&&◌, [], get_or, length, take, refl, sym, ◌∙◌, ap, arith, nat_eq}
use Rattle.std.specs.List.{list_any}
use Rattle.std.specs.Str.{bytes_eq}
use Rattle.std.proofs.lemmas.List.{take_all}
use Rattle.std.proofs.lemmas.List.Folds.{list_any_at}
use Rattle.global_order.specs.Index.{is_ordering}
use Rattle.global_order.specs.declared.quorum.Quorum.{Quorum}
use Rattle.global_order.proofs.Booleans.{bytes-same, nat_eq-own}
use Rattle.global_order.proofs.Settling.{order-same, order-none, orders-step, orders-skip}
use Rattle.global_order.proofs.Highest.{highest-takes}
use Rattle.global_order.proofs.orders.put_orders.Goals as goal
use Rattle.global_order.proofs.orders.put_orders.Goals.{then-eq, else-eq}

pub loop-quorum-init : goal.loop-quorum-init
loop-quorum-init c = record {
  orders = order-none (λ s. list_any (is_ordering s c.args.digest) (take 0 c.args.waiting.now))
      c.args.digest c.args.orders.now (λ s. refl);
  highest = λ has. has;
}

pub put_order-requires : goal.put_order-requires
put_order-requires c =
    let q : Quorum = get_or c.args.waiting.now c.loop-quorum.quorum-index record { v = 0; s = 0; digest = [] } in
    let same : q.digest ≡ c.args.digest = bytes-same q.digest c.args.digest (sym c.eq.ensures ∙ c.if-eq.true) in
    c.loop-quorum.invariant.orders.places q.s
    ∙ c.requires q.s (list_any_at (is_ordering q.s c.args.digest) c.args.waiting.now c.loop-quorum.quorum-index record
    { v = 0; s = 0; digest = [] } c.loop-quorum-test.true
    (ap (λ d. nat_eq q.s q.s && bytes_eq q.digest d) (sym same) ∙ nat_eq-own q.s q.digest))

pub loop-quorum-preserved : goal.loop-quorum-preserved
loop-quorum-preserved c = elim c.if-eq.branch [
  | then-eq w ↦ rw (w.orders-is, w.raised-is) record {
    orders = orders-step c.args.waiting.now c.loop-quorum.quorum-index record {
      v = 0;
      s = 0;
      digest =
          [];
    } c.args.digest c.args.orders.now c.loop-quorum.orders w.put_order.new.orders c.loop-quorum-test.true
        (sym c.eq.ensures ∙ w.if-eq.true) c.loop-quorum.invariant.orders w.put_order.ensures;
    highest = λ has. highest-takes _ c.args.digest c.loop-quorum.orders w.put_order.new.orders c.loop-quorum.raised
        w.raised_to-raised.result w.put_order.ensures w.raised_to-raised.ensures (c.loop-quorum.invariant.highest has);
  }
  | else-eq w ↦ rw (w.orders-is, w.raised-is) record {
    orders = orders-skip c.args.waiting.now c.loop-quorum.quorum-index record {
      v = 0;
      s = 0;
      digest =
          [];
    } c.args.digest c.args.orders.now c.loop-quorum.orders c.loop-quorum-test.true
        (sym c.eq.ensures ∙ w.if-eq.false) c.loop-quorum.invariant.orders;
    highest = c.loop-quorum.invariant.highest;
  }
]

pub returns-clause-orders : goal.returns-clause-orders
returns-clause-orders c =
    let ended : length c.args.waiting.now ≤ c.loop-quorum.quorum-index = omega arith in
    order-same (λ s. list_any (is_ordering s c.args.digest) (take c.loop-quorum.quorum-index c.args.waiting.now))
    (λ s. list_any (is_ordering s c.args.digest) c.args.waiting.now)
    c.args.digest c.args.orders.now c.loop-quorum.orders
    (λ s. ap (list_any (is_ordering s c.args.digest))
    (sym (take_all c.loop-quorum.quorum-index c.args.waiting.now ended))) c.loop-quorum.invariant.orders

pub returns-clause-highest : goal.returns-clause-highest
returns-clause-highest c = c.loop-quorum.invariant.highest
