use Rattle.std.proofs.Common.{◌∙◌}
use Rattle.global_order.proofs.Waits.{kept-again}
use Rattle.global_order.proofs.waiting.make_room.Goals as goal

pub returns-in_err-made-clause-kept : goal.returns-in_err-made-clause-kept
returns-in_err-made-clause-kept c =
    let put = rw c.unwrap.ensures at c.insert.ensures.updates in
    kept-again c.args.digest c.args.waiting.now c.reserve.new.self c.take_out-quorums.new.waiting c.insert.new.self
    c.reserve-made.new.self c.reserve.ensures.entries c.take_out-quorums.ensures.left put.0
    (c.reserve-made.ensures.items ∙ c.take_out-quorums.ensures.quorums)
