-- A frame that was held, or comes from the actor's inbox, stands, so the station can take it. What is said at
-- the turn is well made, so each frame of it can be posted.
use Rattle.std.proofs.Common.{length, arith}
use Rattle.scenario_file.specs.Reading.{contents}
use Rattle.replica_threads.proofs.Turning.{well_turned, valid_here, all_here, well_here, held_of, turn_of}
use Rattle.replica_threads.proofs.TurnsSent.{turn_sent}
use Rattle.replica_threads.proofs.completing.make_turn.Goals as goal

pub next_held-requires-clause-there : goal.next_held-requires-clause-there
next_held-requires-clause-there g c = omega (arith, c.requires.shared.inboxes, c.requires.there)

pub turn-requires-clause-stands : goal.turn-requires-clause-stands
turn-requires-clause-stands g c =
    c.in_ok-taken.ensures.stands g.N.Naming.name.scenario c.requires.shared.ring c.requires.stands

pub post_all-requires-clause-valid : goal.post_all-requires-clause-valid
post_all-requires-clause-valid g c = valid_here (contents c.args.shared.now.scenario.now) g.N.Naming.name.scenario
    c.requires.shared.scenario c.requires.shared.valid

pub post_all-requires-clause-inboxes : goal.post_all-requires-clause-inboxes
post_all-requires-clause-inboxes g c =
    all_here (contents c.args.shared.now.scenario.now) g.N.Naming.name.scenario (length c.args.shared.now.inboxes.now)
    c.requires.shared.scenario c.requires.shared.inboxes

pub post_all-requires-clause-well : goal.post_all-requires-clause-well
post_all-requires-clause-well g c =
    well_here (contents c.args.shared.now.scenario.now) g.N.Naming.name.scenario c.in_ok-turned.turned
    c.requires.shared.scenario
    (well_turned g.N.Naming.name.scenario c.args.station.now c.turn.new.self c.in_ok-taken.taken c.in_ok-turned.turned
    c.in_ok-turned.ensures.turns
    (c.in_ok-taken.ensures.stands g.N.Naming.name.scenario c.requires.shared.ring c.requires.stands)
    c.in_ok-turned.ensures.spelled c.in_ok-turned.ensures.stand c.in_ok-turned.ensures.there)

pub returns : goal.returns
returns g c = record {
  passes = c.in_ok-post_all.ensures.passes;
  sent = turn_sent g.N.Naming.name c.args.actor (contents c.args.shared.now.scenario.now) c.in_ok-turned.turned
      c.args.passes.now.items c.next_held.new.passes.items c.post_all.new.passes.items
      c.requires.shared.scenario c.next_held.ensures.quiet
      (turn_of g.N.Naming.name c.args.actor g.A.Owner.actor c.args.station.now c.turn.new.self c.in_ok-taken.taken
      c.in_ok-turned.turned c.requires.whose c.in_ok-turned.ensures.turns c.in_ok-turned.ensures.whose)
      c.in_ok-post_all.ensures.sent;
  stands = held_of g.N.Naming.name.scenario c.in_ok-turned.turned c.take.result
      (well_turned g.N.Naming.name.scenario c.args.station.now c.turn.new.self c.in_ok-taken.taken
      c.in_ok-turned.turned c.in_ok-turned.ensures.turns
      (c.in_ok-taken.ensures.stands g.N.Naming.name.scenario c.requires.shared.ring c.requires.stands)
      c.in_ok-turned.ensures.spelled c.in_ok-turned.ensures.stand c.in_ok-turned.ensures.there)
      c.take.ensures.value;
  works = c.in_ok-turned.ensures.works;
  made = c.in_ok-turned.ensures.made;
}
