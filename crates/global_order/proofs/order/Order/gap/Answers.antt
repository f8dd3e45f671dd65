-- The number after the last one without a gap is missing exactly where a greater one is ordered, and the
-- greatest number ordered is kept.
use Rattle.std.proofs.Common.{◌≤◌, nat_eq, arith, rules}
use Rattle.indexmap.specs.IndexMap.{get}
use Rattle.protocol_rules.specs.Group.{most_number}
use Rattle.global_order.specs.Index.{order_in}
use Rattle.global_order.specs.OrderState.{IsOrderOf}
use Rattle.global_order.specs.Held.{state_of}
use Rattle.global_order.proofs.Alike.{inside}
use Rattle.global_order.proofs.Runs.{gapless-is}
use Rattle.global_order.proofs.Highest.{gap-some, gap-none}
use Rattle.global_order.proofs.order.Order.gap.Goals as goal

pub overflow_add-least : goal.overflow_add-least
unfolding most_number
overflow_add-least c = let limit : c.self.inside.gapless ≤ 4096 = c.self.invariant.gapless.limit in search rules

pub returns-then-least-self : goal.returns-then-least-self
returns-then-least-self c = λ g facts said is.
    let held : IsOrderOf g (state_of c.self.inside) facts said =
    inside c.self.inside c.args.self.now c.self.view_is g facts said is in
    let choice = held.choices.ordered.choice in
    gap-some g facts (λ s. order_in (get nat_eq c.self.inside.choices.ordered s)) c.self.inside.gapless
    c.self.inside.choices.highest choice
    (gapless-is g facts (λ s. order_in (get nat_eq c.self.inside.choices.ordered s)) c.self.inside.gapless choice
    c.self.invariant.gapless) c.self.invariant.highest c.if-least-self.true

pub returns-else-least-self : goal.returns-else-least-self
returns-else-least-self c = λ g facts said is.
    let held : IsOrderOf g (state_of c.self.inside) facts said =
    inside c.self.inside c.args.self.now c.self.view_is g facts said is in
    let choice = held.choices.ordered.choice in
    gap-none g facts (λ s. order_in (get nat_eq c.self.inside.choices.ordered s)) c.self.inside.gapless
    c.self.inside.choices.highest choice
    (gapless-is g facts (λ s. order_in (get nat_eq c.self.inside.choices.ordered s)) c.self.inside.gapless choice
    c.self.invariant.gapless) c.self.invariant.highest (omega (arith, c.if-least-self.false))
