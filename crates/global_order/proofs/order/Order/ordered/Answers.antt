-- The digest ordered as the number leads to the first known rows of it, which are the ones ordered.
use Rattle.std.proofs.Common.{◌∙◌}
use Rattle.global_order.specs.OrderState.{IsOrderOf}
use Rattle.global_order.specs.Held.{state_of}
use Rattle.global_order.proofs.Alike.{inside}
use Rattle.global_order.proofs.Answering.{ordered-none, ordered-some}
use Rattle.global_order.proofs.order.Order.ordered.Goals as goal

pub returns-in_err-digest : goal.returns-in_err-digest
returns-in_err-digest c g facts said is =
    let held : IsOrderOf g (state_of c.self.inside) facts said =
    inside c.self.inside c.args.self.now c.self.view_is g facts said is in
    rw c.from_residual.ensures
    (ordered-none g facts c.args.s (c.in_err-digest.ensures ∙ held.choices.ordered.choice c.args.s))

pub returns : goal.returns
returns c g facts said is =
    let held : IsOrderOf g (state_of c.self.inside) facts said =
    inside c.self.inside c.args.self.now c.self.view_is g facts said is in
    c.get.ensures.value
    ∙ ordered-some g facts c.args.s c.self.inside.choices.rows c.in_ok-digest.digest held.choices.rows
    (c.in_ok-digest.ensures ∙ held.choices.ordered.choice c.args.s)
