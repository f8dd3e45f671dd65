-- The turns made keep up with those counted unless the actor is halted, so the last count is the number asked
-- for. What a turn needs, a frame that stands and the inboxes' passes, stays given.
use Rattle.std.proofs.Common.{◌≡◌, ◌≤◌, ◌⊎◌, true, false}
use Rattle.world_rules.specs.Scenarios.{setup_of}
use Rattle.world_history.specs.KeptState.{halted_in}
use Rattle.station_turns.specs.Pace.{turns_made}
use Rattle.replica_threads.specs.Hands.{ArePassesOf}
use Rattle.replica_threads.specs.Letters.{HaveSentTurns}
use Rattle.replica_threads.proofs.TakenByHands.{stand_held}
use Rattle.replica_threads.proofs.completing.lacking.Given as goal

-- so many turns were made, unless it is halted, and what was posted is of the actor's turns
abbrev pub invariant-loop-made : goal.invariant-loop-made
invariant-loop-made g l =
    ArePassesOf l.shared.inboxes.now l.passes.items
    × stand_held (setup_of g.N.Naming.name.scenario) l.held
    × (l.station.given_up ≡ false)
    × ((halted_in l.station.kept.bench ≡ true) ⊎ (turns_made l.station.kept.bench.list ≡ l._made))
    × (l._made ≤ g.N.Naming.name.turns)
    × HaveSentTurns g.N.Naming.name l.actor l.initial.passes.items l.passes.items
