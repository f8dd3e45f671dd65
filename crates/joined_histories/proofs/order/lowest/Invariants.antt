use Rattle.std.proofs.Common.{◌≡◌, ◌<◌, ℕ, false}
use Rattle.joined_histories.specs.Order.{is_left}
use Rattle.joined_histories.proofs.order.lowest.Given as goal

-- the actors below have none left
abbrev pub invariant-loop-actor : goal.invariant-loop-actor
invariant-loop-actor l = (other : ℕ) → other < l.actor → is_left l.kept.lists.items l.next other ≡ false
