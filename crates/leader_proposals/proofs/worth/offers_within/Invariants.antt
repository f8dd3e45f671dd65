use Rattle.std.proofs.Common.{◌≡◌, ℕ, ◌<◌, ◌≤◌, None}
use Rattle.protocol_rules.specs.Order.{offered}
use Rattle.global_order.specs.OrderState.{Where}
use Rattle.leader_proposals.proofs.worth.offers_within.Given as goal

-- of the numbers so far none is offered
abbrev pub invariant-loop-before : goal.invariant-loop-before
invariant-loop-before l =
    Where l.order (λ g facts said. (s : ℕ) → l.from < s → s ≤ l.before → offered facts l.view s ≡ None)
