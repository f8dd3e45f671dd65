use Rattle.std.proofs.Common.{◌≡◌, Some}
use Rattle.protocol_rules.specs.Order.{plan_known}
use Rattle.global_order.specs.OrderState.{HasSizes, Where}
use Rattle.leader_proposals.specs.Counting.{IsSettled}
use Rattle.leader_proposals.proofs.progress.Progress.settle.Given as goal

abbrev pub invariant-loop-settled : goal.invariant-loop-settled
invariant-loop-settled l =
    Where l.order (λ g facts ordered. HasSizes g l.sizes.n l.sizes.q → plan_known facts l.self.view ≡ Some l.plan →
    IsSettled g facts l.self.view l.self.settled l.self.reach.numbers
    → IsSettled g facts l.self.view l.settled l.reach.numbers)
