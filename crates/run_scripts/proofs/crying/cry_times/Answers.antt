-- The cries so far and those left are together so many times a cry. A cry that stops the play stops all of them
-- at the same making.
use Rattle.std.proofs.Common.{arith}
use Rattle.std.proofs.lemmas.Result.{err_from_is_err_and}
use Rattle.run_scripts.specs.Making.{cries}
use Rattle.run_scripts.specs.Playing.{given_in}
use Rattle.run_scripts.proofs.DoneAndLeft.{times_starts, times_on, times_stops, times_ends}
use Rattle.run_scripts.proofs.crying.cry_times.Goals as goal

pub loop-said-init : goal.loop-said-init
loop-said-init c = times_starts (given_in c.args.world.now) (cries (given_in c.args.world.now) c.args.master)
    c.args.times c.args.playing.now c.requires.playing

pub cry-requires-clause-playing : goal.cry-requires-clause-playing
cry-requires-clause-playing c = c.loop-said.invariant.playing

pub loop-said-preserved : goal.loop-said-preserved
loop-said-preserved c = times_on (cries (given_in c.args.world.now) c.args.master) c.args.times c.loop-said._said
    (omega (arith, c.loop-said-test.true)) c.loop-said.invariant c.in_ok-cry.ensures

pub returns-in_err-cry : goal.returns-in_err-cry
returns-in_err-cry c =
    let p = err_from_is_err_and c.from_residual.result c.from_residual.ensures.1 in
    times_stops c.cry.new.playing (cries (given_in c.args.world.now) c.args.master) c.args.times c.loop-said._said
    (omega (arith, c.loop-said-test.true)) c.from_residual.result c.in_err-cry.field-0.0 p.0 p.1 p.2
    c.loop-said.invariant c.in_err-cry.ensures

pub returns : goal.returns
returns c = times_ends (cries (given_in c.args.world.now) c.args.master) c.args.times c.loop-said._said
    (omega arith) c.loop-said.invariant
