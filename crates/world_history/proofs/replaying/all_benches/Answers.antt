-- The benches so far are those of the actors below, before any event; each turn makes the next actor's, until
-- all are there.
use Rattle.std.proofs.Common.{arith}
use Rattle.scenario_file.specs.Reading.{contents}
use Rattle.world_history.proofs.HistoryReplays.{actor_below, none_begun, one_begun, all_begun}
use Rattle.world_history.proofs.replaying.all_benches.Goals as goal

pub loop-actor-init : goal.loop-actor-init
loop-actor-init c = none_begun (contents c.args.scenario.now) c.in_ok-benches.benches.items
    c.in_ok-benches.ensures.items

pub make-requires-clause-there : goal.make-requires-clause-there
make-requires-clause-there c =
    actor_below (contents c.args.scenario.now) c.cast.result c.actors-actors.result c.loop-actor.actor c.cast.ensures
    c.actors-actors.ensures c.loop-actor-test.true

pub loop-actor-preserved : goal.loop-actor-preserved
loop-actor-preserved c =
    one_begun (contents c.args.scenario.now) c.loop-actor.actor c.loop-actor.benches.items
    c.push.new.self.items c.in_ok-make.field-0
    c.loop-actor.invariant c.in_ok-make.ensures c.in_ok-push.ensures.items

pub returns : goal.returns
returns c =
    all_begun (contents c.args.scenario.now) c.cast.result c.actors-actors.result c.loop-actor.actor
    c.loop-actor.benches.items
    c.cast.ensures c.actors-actors.ensures c.loop-actor.auto.actor-end (omega (arith, c.loop-actor-test.false))
    c.loop-actor.invariant
