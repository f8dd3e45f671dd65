-- Each number gone over adds something, and so far the rows before the next one reach.
use Rattle.std.proofs.Common.{◌≡◌, ◌+◌, ℕ, ◌<◌, ◌≤◌, true}
use Rattle.protocol_rules.specs.Matrix.{reach}
use Rattle.protocol_rules.specs.Order.{gapless, ordered_run}
use Rattle.protocol_rules.specs.Worth.{adds}
use Rattle.summary_matrix.specs.Held.{TellsEach}
use Rattle.global_order.specs.OrderState.{HasSizes, Where}
use Rattle.leader_proposals.specs.Worthy.{ReachesBefore}
use Rattle.leader_proposals.proofs.worth.last_added.Given as goal

abbrev pub invariant-loop-last : goal.invariant-loop-last
invariant-loop-last l =
    Where l.order (λ g facts said. HasSizes g l.sizes.n l.sizes.q → TellsEach l.reach.numbers (reach g (ordered_run g facts))
    → (ReachesBefore g facts l.view (l.last + 1) l.reached.numbers)
    × ((t : ℕ) → gapless g facts < t → t ≤ l.last → adds g facts l.view t ≡ true))
