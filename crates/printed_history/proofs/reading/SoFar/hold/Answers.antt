-- There is a bench exactly where the key that is held is the actor's, and then all else is by the keys that are held.
use Rattle.std.proofs.Common.{Some}
use Rattle.scenario_file.specs.Reading.{contents, with_held}
use Rattle.world_history.proofs.HeldWorlds.{held_scenario}
use Rattle.printed_history.proofs.FirstAtHand.{one_begun}
use Rattle.printed_history.proofs.reading.SoFar.hold.Goals as goal

pub returns-in_default-clause-own : goal.returns-in_default-clause-own
returns-in_default-clause-own c = rw c.in_default.is at c.in_ok-found.ensures.own

pub first-requires-clause-held : goal.first-requires-clause-held
first-requires-clause-held c =
    held_scenario (contents c.args.scenario.now) c.args.held.now c.identifier_size.ensures c.requires.scenario

pub first-requires-clause-ring : goal.first-requires-clause-ring
first-requires-clause-ring c = c.in_ok-ring.ensures

pub first-requires-clause-benches : goal.first-requires-clause-benches
first-requires-clause-benches c =
    one_begun (with_held (contents c.args.scenario.now) (Some c.args.held.now)) c.args.actor
    c.in_ok-benches.benches.items c.in-Some.bench (rw c.in-Some.is at c.in_ok-found.ensures.first)
    c.in_ok-benches.ensures

pub returns-clause-begun : goal.returns-clause-begun
returns-clause-begun c = c.in_ok-so_far.ensures

pub returns-clause-own : goal.returns-clause-own
returns-clause-own c = rw c.in-Some.is at c.in_ok-found.ensures.own
