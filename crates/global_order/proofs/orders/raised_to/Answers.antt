-- A number beyond the last one does not count; else the greater of the two is the greatest.
use Rattle.std.proofs.Common.{◌≡◌, max, sym, subst, arith, nat_eq}
use Rattle.protocol_rules.specs.Group.{most_number}
use Rattle.global_order.specs.Index.{RisesTo}
use Rattle.global_order.proofs.Highest.{rises-max, rises-beyond}
use Rattle.global_order.proofs.orders.raised_to.Goals as goal

pub returns-then-s-le-MOST_NUMBER : goal.returns-then-s-le-MOST_NUMBER
unfolding most_number
returns-then-s-le-MOST_NUMBER c =
    let greater : c.max.result ≡ max c.args.highest c.args.s = grind (arith, c.max.ensures) in
    subst (RisesTo (nat_eq c.args.s) c.args.highest) (sym greater)
    (rises-max c.args.s c.args.highest (omega (arith, c.if-s-le-MOST_NUMBER.true)))

pub returns-else-s-le-MOST_NUMBER : goal.returns-else-s-le-MOST_NUMBER
unfolding most_number
returns-else-s-le-MOST_NUMBER c = rises-beyond c.args.s c.args.highest (omega (arith, c.if-s-le-MOST_NUMBER.false))
