-- Below the first number that is pending in the view no prepare is due.
use Rattle.global_order.specs.OrderState.{IsOrderOf}
use Rattle.global_order.specs.Held.{state_of}
use Rattle.global_order.specs.Unsaid.{offers_rows, said_in}
use Rattle.global_order.proofs.Alike.{inside}
use Rattle.global_order.proofs.Touching.{none-before}
use Rattle.global_order.proofs.order.Order.no_prepare_up_to.Goals as goal

pub returns : goal.returns
returns c g facts said is s one within =
    let a = c.self.inside in
    let held : IsOrderOf g (state_of c.self.inside) facts said =
    inside c.self.inside c.args.self.now c.self.view_is g facts said is in
    none-before facts said a.told.prepares c.pending_in.result c.args.view c.first_pending.result
    c.saturating_sub.result s c.pending_in.ensures.view held.prepares_said
    (c.pending_in.ensures.pending (said_in a.told.prepares) (offers_rows facts) held.prepares_pending)
    c.first_pending.ensures c.saturating_sub.ensures one within
