-- A vote that counts makes just the ready orders done, and these are carried out behind the writes kept: so the
-- writes stay the orders done. Any other vote changes nothing.
use Rattle.std.proofs.Common.{ap, sym, refl, ◌∙◌, subst, length, ◌≡◌, ◌++◌, ◌+◌, true, nat_eq}
use Rattle.std.specs.Prelude.{◌&&◌}
use Rattle.vouched_orders.specs.declared.vote.Vote.{Vote}
use Rattle.vouched_orders.specs.Tally.{MakesDone}
use Rattle.vouched_orders.proofs.TallyLaws.{on_err}
use Rattle.field_proxy.specs.contracts.proxy.Proxy.{the_view}
use Rattle.field_proxy.specs.Exchanges.{line_after}
use Rattle.field_proxy.specs.Writes.{can_write, order_requests, after_orders, kept_orders}
use Rattle.field_proxy.proofs.LineLaws.{asked_is}
use Rattle.field_proxy.specs.Front.{ProxyState, after_vote}
use Rattle.field_proxy.proofs.FrontLaws.{front_seen, front_kept, front_ignored, front_asks, front_voted, front_refused}
use Rattle.field_proxy.proofs.BeginningLaws.{nothing_passed}
use Rattle.field_proxy.proofs.proxy.Proxy.take_voucher.Goals as goal

pub returns-then-not-is_counted-clause-ok : goal.returns-then-not-is_counted-clause-ok
returns-then-not-is_counted-clause-ok c = λ s is.
    let vote : Vote = record { signer = c.args.signer; voucher = c.args.voucher.now } in
    front_kept (the_view c.self.inside) (after_vote s vote) c.new.result
    (front_seen (the_view c.self.inside) c.args.self.now (after_vote s vote) c.self.view_is
    (front_ignored c.args.self.now s vote is (sym c.counts-is_counted.ensures ∙ c.if-not-is_counted.true)))

pub returns-in_err-orders-clause-err : goal.returns-in_err-orders-clause-err
returns-in_err-orders-clause-err c = on_err c.from_residual.result (λ s is.
    front_kept (the_view c.self.inside) s c.new.result
    (front_seen (the_view c.self.inside) c.args.self.now s c.self.view_is is))

pub returns-in_err-orders-clause-begun : goal.returns-in_err-orders-clause-begun
returns-in_err-orders-clause-begun c =
    on_err c.from_residual.result (λ s is. nothing_passed c.new.result _ c.new.ensures)

pub returns-clause-err : goal.returns-clause-err
returns-clause-err c = λ s is.
    let stays = c.in-Err.ensures in
    front_refused (the_view c.self.inside) _ s _ _ _
    (front_seen (the_view c.self.inside) c.args.self.now s c.self.view_is is) stays.vouched_stays refl
    stays.device_stays stays.writes_stay

pub returns-clause-begun : goal.returns-clause-begun
returns-clause-begun c = λ s is.
    let vote : Vote = record { signer = c.args.signer; voucher = c.args.voucher.now } in
    let Counts : ProxyState → Type 0 =
    λ p. (nat_eq c.args.voucher.now.client p.client && can_write p.points p.client c.args.voucher.now.order)
    ≡ true in
    let it_counts =
    subst Counts (sym c.self.view_is) (sym c.counts-is_counted.ensures ∙ c.if-not-is_counted.false) in
    front_asks (the_view c.self.inside) s vote c.deref.result.now c.new-line.result c.carry_out_vote.new.line
    c.as_slice.result.now c.into_passed.result
    (front_seen (the_view c.self.inside) c.args.self.now s c.self.view_is is) it_counts
    (subst (MakesDone c.self.inside.vouched vote) (sym c.deref.ensures.value) c.in_ok-orders.ensures)
    c.new-line.ensures c.as_slice.ensures c.into_passed.ensures c.in-Err.ensures.begun

pub returns-in-Ok-clause-ok : goal.returns-in-Ok-clause-ok
returns-in-Ok-clause-ok c = λ s is.
    let vote : Vote = record { signer = c.args.signer; voucher = c.args.voucher.now } in
    let Counts : ProxyState → Type 0 =
    λ p. (nat_eq c.args.voucher.now.client p.client && can_write p.points p.client c.args.voucher.now.order)
    ≡ true in
    let it_counts =
    subst Counts (sym c.self.view_is) (sym c.counts-is_counted.ensures ∙ c.if-not-is_counted.false) in
    let device = c.in-Ok.ensures.device
    ∙ ap (λ points. after_orders points c.self.inside.device c.deref.result.now) c.as_slice.ensures in
    let passed = c.in-Ok.ensures.line
    ∙ ap (λ points. line_after c.new-line.result c.self.inside.device (order_requests points c.deref.result.now))
    c.as_slice.ensures in
    let line = asked_is c.self.inside.line c.new-line.result c.carry_out_vote.new.line c.keep.new.self
    c.self.inside.device (order_requests c.self.inside.points c.deref.result.now)
    c.new-line.ensures passed c.keep.ensures.some c.keep.ensures.none in
    let writes = c.in-Ok.ensures.writes
    ∙ ap (λ points. c.self.inside.writes.items ++ kept_orders points c.self.inside.device
    (length c.self.inside.writes.items + 1) c.deref.result.now) c.as_slice.ensures in
    front_voted (the_view c.self.inside) _ s vote c.deref.result.now _ _ _ _
    (front_seen (the_view c.self.inside) c.args.self.now s c.self.view_is is) it_counts
    (subst (MakesDone c.self.inside.vouched vote) (sym c.deref.ensures.value) c.in_ok-orders.ensures)
    c.in-Ok.ensures.vouched refl device line writes
