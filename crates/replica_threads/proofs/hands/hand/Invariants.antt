use Rattle.world_rules.specs.Scenarios.{setup_of}
use Rattle.replica_threads.specs.Hands.{ArePassesOf}
use Rattle.replica_threads.specs.Letters.{HaveSentTurns}
use Rattle.replica_threads.proofs.TakenByHands.{stand_held}
use Rattle.replica_threads.proofs.hands.hand.Given as goal

-- the frame that is held stands, and what was posted is of the actor's turns
abbrev pub invariant-loop-turn : goal.invariant-loop-turn
invariant-loop-turn g l = ArePassesOf l.shared.inboxes.now l.passes.items
    × stand_held (setup_of g.N.Naming.name.scenario) l.held
    × HaveSentTurns g.N.Naming.name l.actor l.initial.passes.items l.passes.items
