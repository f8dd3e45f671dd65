use Rattle.std.proofs.Common.{◌≡◌, ◌<◌, ℕ, false}
use Rattle.scenario_file.specs.Reading.{contents}
use Rattle.world_rules.specs.Scenarios.{setup_of}
use Rattle.joined_histories.specs.Order.{is_ready}
use Rattle.joined_histories.proofs.order.first_ready.Given as goal

-- the actors below aren't ready
abbrev pub invariant-loop-actor : goal.invariant-loop-actor
invariant-loop-actor l =
    (other : ℕ) → other < l.actor → is_ready (setup_of (contents l.scenario)) l.kept.lists.items l.next other ≡ false
