-- The stable number is at most the last number there is, so that the window's end fits.
use Rattle.std.proofs.Common.{◌+◌, ◌≤◌, ap, rules}
use Rattle.protocol_rules.specs.Group.{window, most_number}
use Rattle.global_order.specs.OrderState.{IsOrderOf}
use Rattle.global_order.specs.Held.{state_of}
use Rattle.global_order.proofs.Alike.{inside}
use Rattle.global_order.proofs.order.Order.window_end.Goals as goal

pub overflow_add-result : goal.overflow_add-result
unfolding most_number
overflow_add-result c = let limit : c.self.inside.stable ≤ 4096 = c.self.invariant.stable in search rules

pub returns : goal.returns
unfolding window
returns c g facts said is =
    let held : IsOrderOf g (state_of c.self.inside) facts said =
    inside c.self.inside c.args.self.now c.self.view_is g facts said is in
    ap (λ n. n + 16) held.stable
