use Rattle.std.proofs.Common.{None, refl}
use Rattle.global_order.proofs.Settling.{keeps-slots}
use Rattle.global_order.proofs.slots.make_slot.Goals as goal

pub returns-clause-kept : goal.returns-clause-kept
returns-clause-kept c = keeps-slots c.args.slots.now c.insert.new.self (c.args.v, c.args.s) record {
  first = None;
  least = None;
} c.if-contains_key.ensures refl refl c.in_ok-insert.ensures.updates.0
