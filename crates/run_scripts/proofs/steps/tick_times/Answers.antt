-- The times so far and those left are together as many as the line asks for. A tick that stops the play stops
-- all of them at the same making.
use Rattle.std.proofs.Common.{arith}
use Rattle.std.proofs.lemmas.Result.{err_from_is_err_and}
use Rattle.run_scripts.specs.Making.{all_tick}
use Rattle.run_scripts.specs.Playing.{given_in}
use Rattle.run_scripts.proofs.DoneAndLeft.{times_starts, times_on, times_stops, times_ends}
use Rattle.run_scripts.proofs.steps.tick_times.Goals as goal

pub loop-time-init : goal.loop-time-init
loop-time-init c = times_starts (given_in c.args.world.now) (all_tick (given_in c.args.world.now) c.args.actors.now)
    c.args.times c.args.playing.now c.requires.playing

pub all_tick-requires-clause-playing : goal.all_tick-requires-clause-playing
all_tick-requires-clause-playing c = c.loop-time.invariant.playing

pub loop-time-preserved : goal.loop-time-preserved
loop-time-preserved c = times_on (all_tick (given_in c.args.world.now) c.args.actors.now)
    c.args.times c.loop-time._time (omega (arith, c.loop-time-test.true)) c.loop-time.invariant c.in_ok-all_tick.ensures

pub returns-in_err-all_tick : goal.returns-in_err-all_tick
returns-in_err-all_tick c =
    let p = err_from_is_err_and c.from_residual.result c.from_residual.ensures.1 in
    times_stops c.all_tick.new.playing (all_tick (given_in c.args.world.now) c.args.actors.now)
    c.args.times c.loop-time._time (omega (arith, c.loop-time-test.true)) c.from_residual.result
    c.in_err-all_tick.field-0.0 p.0 p.1 p.2 c.loop-time.invariant c.in_err-all_tick.ensures

pub returns : goal.returns
returns c = times_ends (all_tick (given_in c.args.world.now) c.args.actors.now) c.args.times c.loop-time._time
    (omega arith) c.loop-time.invariant
