-- What the place held goes into the log before anything is written there: so, whether the write was made or
-- memory ran out, undoing the log gives back the device as it was.
use Rattle.std.proofs.Common.{ap, sym, ◌∙◌, inr, ◌++◌, ◌∷◌, []}
use Rattle.vouched_orders.proofs.TallyLaws.{on_err}
use Rattle.field_proxy.proofs.PlaceLaws.{undone_write}
use Rattle.field_proxy.proofs.OrderLaws.{after_order_is, kept_is, kept_nothing}
use Rattle.field_proxy.proofs.LineLaws.{one_asked, none_asked}
use Rattle.field_proxy.proofs.orders.carry_one.Goals as goal

pub returns-in_default-point_at-clause-writes : goal.returns-in_default-point_at-clause-writes
returns-in_default-point_at-clause-writes c =
    kept_nothing c.args.points.now c.args.device.now c.args.number c.args.order.now c.in-Write.point
    c.in-Write.raw _ c.in-Write.is
    (sym c.in_default-point_at.ensures)

pub returns-in_err-exception-clause-undone : goal.returns-in_err-exception-clause-undone
returns-in_err-exception-clause-undone c =
    undone_write _ _ _ _ _ _ _ c.in-Write.raw _ c.in_ok-push.ensures.items c.written_area-area.ensures c.value.ensures
    c.in_err-exception.ensures.err

pub returns-in_err-push-2-clause-begun : goal.returns-in_err-push-2-clause-begun
returns-in_err-push-2-clause-begun c = on_err c.from_residual-in_err-push-2.result (inr
    (c.in_ok-exception.ensures.line
    ∙ sym (one_asked c.args.points.now c.args.line.now c.args.device.now c.args.order.now c.in-Write.point
    c.in-Write.raw c.in-Some.target.now c.in-Write.is (sym c.in-Some.ensures))))

pub returns-in_err-push-2-clause-undone : goal.returns-in_err-push-2-clause-undone
returns-in_err-push-2-clause-undone c =
    undone_write _ _ _ _ _ _ _ c.in-Write.raw _ c.in_ok-push.ensures.items c.written_area-area.ensures c.value.ensures
    (inr c.in_ok-exception.ensures.after)

pub returns-clause-undone : goal.returns-clause-undone
returns-clause-undone c =
    undone_write _ _ _ _ _ _ _ c.in-Write.raw _ c.in_ok-push.ensures.items c.written_area-area.ensures c.value.ensures
    (inr c.in_ok-exception.ensures.after)

pub returns-clause-device : goal.returns-clause-device
returns-clause-device c =
    c.in_ok-exception.ensures.after
    ∙ sym (after_order_is c.args.points.now c.args.device.now c.args.order.now c.in-Write.point c.in-Write.raw
    c.in-Some.target.now c.in-Write.is (sym c.in-Some.ensures))

pub returns-in_default-point_at-clause-line : goal.returns-in_default-point_at-clause-line
returns-in_default-point_at-clause-line c =
    none_asked c.args.points.now c.args.line.now c.args.device.now c.args.order.now c.in-Write.point c.in-Write.raw
    c.in-Write.is (sym c.in_default-point_at.ensures)

pub returns-clause-line : goal.returns-clause-line
returns-clause-line c =
    c.in_ok-exception.ensures.line
    ∙ sym (one_asked c.args.points.now c.args.line.now c.args.device.now c.args.order.now c.in-Write.point
    c.in-Write.raw c.in-Some.target.now c.in-Write.is (sym c.in-Some.ensures))

pub returns-clause-writes : goal.returns-clause-writes
returns-clause-writes c =
    let kept = kept_is c.args.points.now c.args.device.now c.args.number c.args.order.now c.in-Write.point
    c.in-Write.raw c.in-Some.target.now c.in-Write.is (sym c.in-Some.ensures) in
    c.in_ok-push-2.ensures.items
    ∙ ap (λ e. c.args.writes.now.items ++ record {
      number = c.args.number;
      point = c.in-Write.point;
      raw =
          c.in-Write.raw;
      exception = e;
    } ∷ []) c.in_ok-exception.ensures.exception
    ∙ ap (λ k. c.args.writes.now.items ++ k) (sym kept)
