-- A delivery that is due is of a frame that stands and was said before, so its addressee may take it. Where it
-- is cut off nothing happens, as in the definition.
use Rattle.std.proofs.Common.{◌≡◌, refl}
use Rattle.std.proofs.lemmas.Result.{err_from_is_err_and}
use Rattle.world_entries.specs.Entries.{event_of}
use Rattle.run_scripts.specs.Playing.{given_in}
use Rattle.run_scripts.proofs.DoneAndLeft.{wants}
use Rattle.run_scripts.proofs.DueStays.{cut_off, taken, due_may}
use Rattle.run_scripts.proofs.steps.deliver.Goals as goal

pub returns-then-is_cut_off : goal.returns-then-is_cut_off
returns-then-is_cut_off c = λ m is.
    cut_off (given_in c.args.world.now) c.args.delivery.now m c.args.playing.now c.deref.result.now
    c.is_cut_off.result is c.deref.ensures.value c.is_cut_off.ensures c.if-is_cut_off.true

pub returns-in_err-event : goal.returns-in_err-event
returns-in_err-event c = λ m is.
    let p = err_from_is_err_and c.from_residual.result c.from_residual.ensures.1 in
    wants (given_in c.args.world.now) c.from_residual.result p.0 _ _ p.1 p.2

pub does-requires-clause-role : goal.does-requires-clause-role
does-requires-clause-role c =
    (due_may (given_in c.args.world.now) c.args.delivery.now c.args.playing.now.entries (event_of c.in_ok-event.event)
    c.requires.due c.in_ok-event.ensures).0

pub does-requires-clause-other : goal.does-requires-clause-other
does-requires-clause-other c =
    (due_may (given_in c.args.world.now) c.args.delivery.now c.args.playing.now.entries (event_of c.in_ok-event.event)
    c.requires.due c.in_ok-event.ensures).1

pub does-requires-clause-taken : goal.does-requires-clause-taken
does-requires-clause-taken c =
    (due_may (given_in c.args.world.now) c.args.delivery.now c.args.playing.now.entries (event_of c.in_ok-event.event)
    c.requires.due c.in_ok-event.ensures).2

pub returns : goal.returns
returns c = λ m is.
    taken (given_in c.args.world.now) c.does.result c.args.delivery.now m c.args.playing.now c.does.new.playing
    (event_of c.in_ok-event.event) c.deref.result.now c.is_cut_off.result is
    c.deref.ensures.value c.is_cut_off.ensures c.if-is_cut_off.false c.in_ok-event.ensures (c.does.ensures m is)
