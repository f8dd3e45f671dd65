use Rattle.std.proofs.Common.{◌≡◌, Some}
use Rattle.protocol_rules.specs.Order.{plan_known}
use Rattle.global_order.specs.OrderState.{HasSizes, Where}
use Rattle.summary_matrix.specs.Held.{TellsEach}
use Rattle.leader_proposals.specs.Counting.{reach_to, IsSettled}
use Rattle.leader_proposals.proofs.progress.Progress.reach_to.Given as goal

abbrev pub invariant-loop-before : goal.invariant-loop-before
invariant-loop-before l =
    Where l.order (λ g facts ordered. HasSizes g l.sizes.n l.sizes.q → plan_known facts l.self.view ≡ Some l.plan →
    IsSettled g facts l.self.view l.self.settled l.self.reach.numbers
    → TellsEach l.reach.numbers (reach_to g facts l.self.view l.before))
