-- From turn to turn the frame that is held stands and the passes are those of the inboxes. What a turn says is
-- well made whatever other hands did before, so it can be posted.
use Rattle.std.proofs.Common.{length, arith}
use Rattle.scenario_file.specs.Reading.{contents}
use Rattle.replica_threads.proofs.Turning.{valid_here, all_here, well_here, some_well, some_of, held_of}
use Rattle.replica_threads.proofs.TurnsSent.{none_sent, quiet_sent, then_sent, turn_sent}
use Rattle.replica_threads.proofs.hands.hand.Goals as goal

pub loop-turn-init : goal.loop-turn-init
loop-turn-init g c = (c.requires.passes, tt, none_sent g.N.Naming.name c.args.actor c.args.passes.now.items)

pub next_held-requires-clause-there : goal.next_held-requires-clause-there
next_held-requires-clause-there g c = omega (arith, c.requires.shared.inboxes, c.requires.there)

pub turn_under_lock-requires-clause-stands : goal.turn_under_lock-requires-clause-stands
turn_under_lock-requires-clause-stands g c =
    c.in_ok-taken.ensures.stands g.N.Naming.name.scenario c.requires.shared.ring c.loop-turn.invariant.1

pub post_all-requires-clause-valid : goal.post_all-requires-clause-valid
post_all-requires-clause-valid g c = valid_here (contents c.args.shared.now.scenario.now) g.N.Naming.name.scenario
    c.requires.shared.scenario c.requires.shared.valid

pub post_all-requires-clause-inboxes : goal.post_all-requires-clause-inboxes
post_all-requires-clause-inboxes g c =
    all_here (contents c.args.shared.now.scenario.now) g.N.Naming.name.scenario (length c.args.shared.now.inboxes.now)
    c.requires.shared.scenario c.requires.shared.inboxes

pub post_all-requires-clause-well : goal.post_all-requires-clause-well
post_all-requires-clause-well g c =
    well_here (contents c.args.shared.now.scenario.now) g.N.Naming.name.scenario c.in-Some.turned
    c.requires.shared.scenario
    (some_well g.N.Naming.name.scenario c.in_ok-turned.field-0 c.in-Some.turned c.in_ok-turned.ensures.well c.in-Some.is)

pub loop-turn-preserved : goal.loop-turn-preserved
loop-turn-preserved g c = (
  c.in_ok-post_all.ensures.passes,
  held_of g.N.Naming.name.scenario c.in-Some.turned c.take-held.result
      (some_well g.N.Naming.name.scenario c.in_ok-turned.field-0 c.in-Some.turned c.in_ok-turned.ensures.well c.in-Some.is)
      c.take-held.ensures.value,
  then_sent g.N.Naming.name c.args.actor c.args.passes.now.items c.loop-turn.passes.items c.post_all.new.passes.items
      c.loop-turn.invariant.2
      (turn_sent g.N.Naming.name c.args.actor (contents c.args.shared.now.scenario.now) c.in-Some.turned
      c.loop-turn.passes.items c.next_held.new.passes.items c.post_all.new.passes.items
      c.requires.shared.scenario c.next_held.ensures.quiet
      (some_of g.N.Naming.name c.args.actor c.in_ok-turned.field-0 c.in-Some.turned c.in_ok-turned.ensures.whose c.in-Some.is)
      c.in_ok-post_all.ensures.sent),
)

pub returns-in_default-clause-sent : goal.returns-in_default-clause-sent
returns-in_default-clause-sent g c =
    then_sent g.N.Naming.name c.args.actor c.args.passes.now.items c.loop-turn.passes.items
    c.next_held.new.passes.items c.loop-turn.invariant.2
    (quiet_sent g.N.Naming.name c.args.actor c.loop-turn.passes.items c.next_held.new.passes.items
    c.next_held.ensures.quiet)

pub returns-clause-sent : goal.returns-clause-sent
returns-clause-sent g c = c.loop-turn.invariant.2
