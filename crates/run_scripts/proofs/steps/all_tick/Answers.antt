-- The ticks so far and those of the actors left are together all that the line asks for. All actors named are
-- there, so each may tick, and one that stops the play stops it for all.
use Rattle.std.proofs.Common.{◌≡◌, drop, get_or, arith}
use Rattle.std.proofs.lemmas.List.{get_or_default}
use Rattle.std.proofs.lemmas.Result.{err_from_is_err_and}
use Rattle.history_rules.specs.Events.{Tick}
use Rattle.scenario_file.specs.Reading.{contents}
use Rattle.script_laws.specs.Accepted.{is_there}
use Rattle.run_scripts.specs.Making.{all_tick, does}
use Rattle.run_scripts.specs.Playing.{given_in}
use Rattle.run_scripts.proofs.DoneAndLeft.{starts, list_on, list_stops, list_ends}
use Rattle.run_scripts.proofs.PlayKeeps.{may_tick}
use Rattle.run_scripts.proofs.PlaySteps.{ticks_more, ticks_end}
use Rattle.plain_lists.proofs.Lists.{all_at}
use Rattle.run_scripts.proofs.steps.all_tick.Goals as goal

pub loop-actor-init : goal.loop-actor-init
loop-actor-init c = starts (given_in c.args.world.now) (all_tick (given_in c.args.world.now) c.args.actors.now)
    c.args.playing.now c.requires.playing

pub does-requires-clause-playing : goal.does-requires-clause-playing
does-requires-clause-playing c = c.loop-actor.invariant.playing

pub does-requires-clause-role : goal.does-requires-clause-role
does-requires-clause-role c =
    may_tick (contents c.args.world.now.scenario.now) (get_or c.args.actors.now c.loop-actor.actor-index 0)
    (all_at (is_there (contents c.args.world.now.scenario.now)) c.args.actors.now c.loop-actor.actor-index
    (get_or c.args.actors.now c.loop-actor.actor-index 0) c.requires.there c.loop-actor-test.true
    (get_or_default c.args.actors.now c.loop-actor.actor-index 0
    (get_or c.args.actors.now c.loop-actor.actor-index 0) c.loop-actor-test.true))

pub loop-actor-preserved : goal.loop-actor-preserved
loop-actor-preserved c =
    list_on (all_tick (given_in c.args.world.now)) (λ a. does (given_in c.args.world.now) a Tick)
    (ticks_more (given_in c.args.world.now))
    c.args.actors.now c.loop-actor.actor-index (get_or c.args.actors.now c.loop-actor.actor-index 0)
    c.loop-actor-test.true (get_or_default c.args.actors.now c.loop-actor.actor-index 0
    (get_or c.args.actors.now c.loop-actor.actor-index 0) c.loop-actor-test.true)
    c.loop-actor.invariant c.in_ok-does.ensures

pub returns-in_err-does : goal.returns-in_err-does
returns-in_err-does c =
    let p = err_from_is_err_and c.from_residual.result c.from_residual.ensures.1 in
    list_stops c.does.new.playing (all_tick (given_in c.args.world.now))
    (λ a. does (given_in c.args.world.now) a Tick) (ticks_more (given_in c.args.world.now))
    c.args.actors.now c.loop-actor.actor-index (get_or c.args.actors.now c.loop-actor.actor-index 0)
    c.loop-actor-test.true (get_or_default c.args.actors.now c.loop-actor.actor-index 0
    (get_or c.args.actors.now c.loop-actor.actor-index 0) c.loop-actor-test.true)
    c.from_residual.result c.in_err-does.field-0.0 p.0 p.1 p.2 c.loop-actor.invariant c.in_err-does.ensures

pub returns : goal.returns
returns c = list_ends (all_tick (given_in c.args.world.now)) (ticks_end (given_in c.args.world.now))
    c.args.actors.now c.loop-actor.actor-index (omega arith) c.loop-actor.invariant
