-- The first digest stays, and the least is the lesser of the two.
use Rattle.std.proofs.Common.{true, false, sym, ◌∙◌}
use Rattle.global_order.proofs.Least.{below-is, lesser-is}
use Rattle.global_order.proofs.slots.with_digest.Goals as goal

pub returns-then-lt-clause-least : goal.returns-then-lt-clause-least
returns-then-lt-clause-least c =
    lesser-is c.args.slot.least c.args.digest c.in-Some-least.least true c.in-Some-least.is
    (sym c.if-lt.true ∙ c.lt.ensures ∙ below-is c.args.digest c.in-Some-least.least)

pub returns-else-lt-clause-least : goal.returns-else-lt-clause-least
returns-else-lt-clause-least c =
    lesser-is c.args.slot.least c.args.digest c.in-Some-least.least false c.in-Some-least.is
    (sym c.if-lt.false ∙ c.lt.ensures ∙ below-is c.args.digest c.in-Some-least.least)
