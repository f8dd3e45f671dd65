-- The run goes on while the next number is ordered. So where it stops the next one is not, or there is none.
use Rattle.std.proofs.Common.{inl, nat_eq, arith, sym, ◌∙◌, ap, is_some}
use Rattle.indexmap.specs.IndexMap.{get}
use Rattle.global_order.specs.Index.{order_in}
use Rattle.global_order.proofs.Runs.{reaches-more, reaches-stop}
use Rattle.global_order.proofs.orders.run_end.Goals as goal

pub loop-end-preserved : goal.loop-end-preserved
loop-end-preserved c = record {
  reaches = λ start. reaches-more (λ s. order_in (get nat_eq c.args.orders.now s)) c.loop-end.end
      (c.loop-end.invariant.reaches start) (omega arith) (sym c.if-is_some.true ∙ c.is_some.ensures
      ∙ ap is_some c.order_of.ensures);
  grows = omega (arith, c.loop-end.invariant.grows);
}

pub returns-after-loop-end-clause-reaches : goal.returns-after-loop-end-clause-reaches
returns-after-loop-end-clause-reaches c = λ start. reaches-stop (λ s. order_in (get nat_eq c.args.orders.now s))
    c.loop-end.end (c.loop-end.invariant.reaches start) (inl (omega arith))
