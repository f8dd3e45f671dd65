-- Of each wanted number the order gives all that it has ordered with its certificate, or nothing. The bodies so
-- far are those of the numbers so far, and none of them is an ask.
use Rattle.std.proofs.Common.{◌<◌, ◌++◌, List, length, get_or, sym, ◌∙◌, ap, arith}
use Rattle.std.specs.List.{flat_map, list_any}
use Rattle.std.proofs.lemmas.List.{take_all}
use Rattle.message_types.specs.declared.body.Body.{Body}
use Rattle.reconcile.specs.Asking.{asks}
use Rattle.reconcile.specs.Giving.{order_given}
use Rattle.reconcile.proofs.Joined.{numbers_join}
use Rattle.master_answers.proofs.Ordered.{whole_given, orders_more, asks_no_more}
use Rattle.master_answers.proofs.giving.whole_orders.Goals as goal

pub loop-s-preserved : goal.loop-s-preserved
loop-s-preserved c =
    let within : c.loop-s.s-index < length c.deref-s-items.result.now = omega arith in
    record {
      all = c.loop-s.invariant.all;
      given = λ g facts ordered is.
          c.in_ok-push_order.ensures
          ∙ ap (λ (xs : List Body). c.loop-s.bodies.items ++ xs)
          (whole_given g facts (get_or c.deref-s-items.result.now c.loop-s.s-index 0) c.in_ok-whole.whole
          (c.in_ok-whole.ensures g facts ordered is))
          ∙ ap (λ (xs : List Body). xs ++ order_given g facts (get_or c.deref-s-items.result.now c.loop-s.s-index 0))
          (c.loop-s.invariant.given g facts ordered is)
          ∙ sym (orders_more g facts c.deref-s-items.result.now c.loop-s.s-index within);
      no_asks = λ w. ap (λ xs. list_any (asks w) xs) c.in_ok-push_order.ensures
          ∙ asks_no_more w c.loop-s.bodies.items c.in_ok-whole.whole (c.loop-s.invariant.no_asks w);
    }

pub returns-clause-due : goal.returns-clause-due
returns-clause-due c = λ g me known facts ordered said order is.
    c.loop-s.invariant.given g facts ordered order
    ∙ ap (flat_map (order_given g facts)) (take_all c.loop-s.s-index c.deref-s-items.result.now (omega arith)
    ∙ c.loop-s.invariant.all)
    ∙ sym (numbers_join g me known facts said c.args.wanted.now is)
