-- The number kept is how far the orders held reach without a gap, and these are the ones of the facts.
use Rattle.std.proofs.Common.{nat_eq}
use Rattle.indexmap.specs.IndexMap.{get}
use Rattle.global_order.specs.Index.{order_in}
use Rattle.global_order.specs.OrderState.{IsOrderOf}
use Rattle.global_order.specs.Held.{state_of}
use Rattle.global_order.proofs.Alike.{inside}
use Rattle.global_order.proofs.Runs.{gapless-is}
use Rattle.global_order.proofs.order.Order.gapless.Goals as goal

pub returns : goal.returns
returns c g facts said is =
    let held : IsOrderOf g (state_of c.self.inside) facts said =
    inside c.self.inside c.args.self.now c.self.view_is g facts said is in
    gapless-is g facts (λ s. order_in (get nat_eq c.self.inside.choices.ordered s)) c.self.inside.gapless
    held.choices.ordered.choice c.self.invariant.gapless
