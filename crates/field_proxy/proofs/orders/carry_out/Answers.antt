-- Each order goes on from what those before it made of the device, the writes and the line, under its own
-- number; the log undoes all of them together.
use Rattle.std.proofs.Common.{arith, ap, sym, refl, ◌∙◌, ◌++◌, ◌+◌, length}
use Rattle.std.proofs.lemmas.List.{append-nil}
use Rattle.field_proxy.proofs.OrderLaws.{after_orders-none, kept_orders-none, after_orders_more, kept_orders_more}
use Rattle.vouched_orders.proofs.TallyLaws.{on_err}
use Rattle.field_proxy.proofs.BeginningLaws.{orders_begun}
use Rattle.field_proxy.proofs.LineLaws.{line_orders_more}
use Rattle.field_proxy.proofs.orders.carry_out.Goals as goal

pub loop-place-init : goal.loop-place-init
loop-place-init c = record {
  device_is = sym (after_orders-none c.args.points.now c.args.device.now);
  writes_are =
      sym (ap (λ k. c.args.writes.now.items ++ k)
      (kept_orders-none c.args.points.now c.args.device.now (length c.args.writes.now.items + 1))
      ∙ append-nil c.args.writes.now.items);
  line_is = refl;
  undoes = refl;
}

pub loop-place-preserved : goal.loop-place-preserved
loop-place-preserved c = record {
  device_is = c.in_ok-carry_one.ensures.device
      ∙ after_orders_more c.args.points.now c.args.device.now c.loop-place.device c.args.orders.now c.loop-place.place
      _ c.loop-place-test.true c.loop-place.invariant.device_is;
  writes_are = kept_orders_more c.args.points.now c.args.device.now c.loop-place.device
      (length c.args.writes.now.items + 1) _ c.args.writes.now.items
      c.loop-place.writes.items _ c.args.orders.now c.loop-place.place _ c.loop-place-test.true
      (omega (arith, c.len.ensures)) c.loop-place.invariant.device_is c.loop-place.invariant.writes_are
      c.in_ok-carry_one.ensures.writes;
  line_is = line_orders_more c.args.line.now c.loop-place.line _ c.args.device.now c.loop-place.device
      c.args.points.now c.args.orders.now c.loop-place.place _ c.loop-place-test.true
      c.loop-place.invariant.device_is c.loop-place.invariant.line_is c.in_ok-carry_one.ensures.line;
  undoes = c.carry_one.ensures.undone ∙ c.loop-place.invariant.undoes;
}

pub returns-in_err-carry_one-clause-begun : goal.returns-in_err-carry_one-clause-begun
returns-in_err-carry_one-clause-begun c = on_err c.from_residual.result
    (orders_begun c.args.line.now c.loop-place.line _ c.args.device.now c.loop-place.device c.args.points.now
    c.args.orders.now c.loop-place.place _ c.loop-place-test.true c.loop-place.invariant.device_is
    c.loop-place.invariant.line_is c.in_err-carry_one.ensures.begun)
