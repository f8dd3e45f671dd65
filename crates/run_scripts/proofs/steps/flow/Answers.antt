-- The rounds so far and those left are together so many rounds. A round that stops the play stops all of them
-- at the same making.
use Rattle.std.proofs.Common.{arith}
use Rattle.std.proofs.lemmas.Result.{err_from_is_err_and}
use Rattle.run_scripts.specs.Making.{round}
use Rattle.run_scripts.specs.Playing.{given_in}
use Rattle.run_scripts.proofs.DoneAndLeft.{times_starts, times_on, times_stops, times_ends}
use Rattle.run_scripts.proofs.steps.flow.Goals as goal

pub loop-round-init : goal.loop-round-init
loop-round-init c = times_starts (given_in c.args.world.now) (round (given_in c.args.world.now))
    c.args.rounds c.args.playing.now c.requires.playing

pub round-requires-clause-playing : goal.round-requires-clause-playing
round-requires-clause-playing c = c.loop-round.invariant.playing

pub loop-round-preserved : goal.loop-round-preserved
loop-round-preserved c = times_on (round (given_in c.args.world.now)) c.args.rounds c.loop-round._round
    (omega (arith, c.loop-round-test.true)) c.loop-round.invariant c.in_ok-round.ensures

pub returns-in_err-round : goal.returns-in_err-round
returns-in_err-round c =
    let p = err_from_is_err_and c.from_residual.result c.from_residual.ensures.1 in
    times_stops c.round.new.playing (round (given_in c.args.world.now)) c.args.rounds c.loop-round._round
    (omega (arith, c.loop-round-test.true)) c.from_residual.result c.in_err-round.field-0.0 p.0 p.1 p.2
    c.loop-round.invariant c.in_err-round.ensures

pub returns : goal.returns
returns c = times_ends (round (given_in c.args.world.now)) c.args.rounds c.loop-round._round
    (omega arith) c.loop-round.invariant
