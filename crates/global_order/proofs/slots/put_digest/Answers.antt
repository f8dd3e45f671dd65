use Rattle.global_order.proofs.Settling.{takes-at}
use Rattle.global_order.proofs.slots.put_digest.Goals as goal

pub returns : goal.returns
returns c =
    let put = rw c.unwrap.ensures at c.insert.ensures.updates in
    takes-at c.args.slots.now c.insert.new.self (c.args.v, c.args.s) c.in-Some.slot.now c.with_digest-slot.result
    c.args.digest c.in-Some.ensures.value c.with_digest-slot.ensures.first c.with_digest-slot.ensures.least put.0
