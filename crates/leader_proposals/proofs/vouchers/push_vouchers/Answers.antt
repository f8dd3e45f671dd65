-- The vouchers for the first orders were said, so that none of them is due; for each order after them the
-- voucher is new, and each turn adds the next.
use Rattle.std.proofs.Common.{◌+◌, ◌≤◌, ◌<◌, ◌++◌, ◌∷◌, [], length, take, get_or, sym, ◌∙◌, ap, arith, append_assoc}
use Rattle.std.proofs.Common.{append-nil}
use Rattle.std.proofs.lemmas.List.{take_all}
use Rattle.message_types.specs.declared.body.Body.{Body}
use Rattle.message_types.specs.declared.vouchers.Order.{Order}
use Rattle.message_types.specs.declared.vouchers.Order.TheVariants as order
use Rattle.protocol_rules.specs.Master.{vouchers_from}
use Rattle.leader_proposals.proofs.Vouching.{voucher_of, vouchers-known, vouchers-next}
use Rattle.leader_proposals.proofs.vouchers.push_vouchers.Goals as goal

pub loop-place-init : goal.loop-place-init
loop-place-init c = λ said has. sym
    (ap (λ xs. c.args.bodies.now.items ++ xs)
    (vouchers-known said c.args.client c.args.count c.args.orders.now c.requires has) ∙ append-nil _)

pub loop-place-preserved : goal.loop-place-preserved
loop-place-preserved c = λ said has.
    let within : c.loop-place.place < length c.args.orders.now = omega arith in
    let from : c.args.count ≤ c.loop-place.place = omega arith in
    let d : Order = order.Write 0 0 in
    let voucher : Body = voucher_of c.args.client (c.loop-place.place + 1)
    (get_or c.args.orders.now c.loop-place.place d) in
    c.in_ok-push.ensures.items
    ∙ ap (λ xs. xs ++ voucher ∷ []) (c.loop-place.invariant said has)
    ∙ append_assoc c.args.bodies.now.items
    (vouchers_from said c.args.client 1 (take c.loop-place.place c.args.orders.now)) (voucher ∷ [])
    ∙ ap (λ xs. c.args.bodies.now.items ++ xs)
    (sym (vouchers-next said c.args.client c.args.count c.loop-place.place c.args.orders.now d from within has))

pub returns : goal.returns
returns c = λ said has.
    c.loop-place.invariant said has
    ∙ ap (λ orders. c.args.bodies.now.items ++ vouchers_from said c.args.client 1 orders)
    (take_all c.loop-place.place c.args.orders.now (omega arith))
