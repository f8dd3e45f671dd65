use Rattle.std.proofs.Common.{◌<◌, length, arith}
use Rattle.leader_proposals.proofs.Vouching.{vouchers-after}
use Rattle.leader_proposals.proofs.vouchers.Vouchers.due_for.Goals as goal

pub returns-clause-said : goal.returns-clause-said
returns-clause-said c = λ said are.
    let within : c.args.client < length c.args.self.now.counts = omega arith in
    vouchers-after said c.args.self.now.counts c.args.client c.args.orders.now within
    c.requires.client c.requires.orders are
