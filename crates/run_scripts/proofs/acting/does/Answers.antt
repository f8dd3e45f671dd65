-- A halted actor does nothing, and with the most entries there may be the play stops. Else the actor is there,
-- runs and has room, which is all that acting asks, so the play goes as the definition's.
use Rattle.std.proofs.Common.{◌≡◌, arith, refl, ap, true, sym, ◌∙◌}
use Rattle.std.proofs.lemmas.Bool.{and_parts}
use Rattle.std.proofs.lemmas.Result.{err_from_is_err_and}
use Rattle.world_entries.specs.Entries.{event_of}
use Rattle.world_rules.specs.Scenarios.{fits_in}
use Rattle.scenario_file.specs.Reading.{contents}
use Rattle.script_laws.specs.Accepted.{is_there}
use Rattle.run_scripts.specs.Making.{does, most_entries}
use Rattle.run_scripts.specs.Playing.{given_in}
use Rattle.run_scripts.proofs.DoneAndLeft.{wants}
use Rattle.run_scripts.proofs.EventPlayed.{place_there, halted_goes, runs_on, full_goes, act_goes}
use Rattle.run_scripts.proofs.acting.does.Goals.{Start}
use Rattle.run_scripts.proofs.acting.does.Goals as goal

actor_there : (c : Start) → is_there (contents c.args.world.now.scenario.now) c.args.actor ≡ true
actor_there c = (and_parts (is_there (contents c.args.world.now.scenario.now) c.args.actor)
    (fits_in (contents c.args.world.now.scenario.now) c.args.actor (event_of c.args.event)) c.requires.role).0

pub index-requires : goal.index-requires
index-requires c =
    omega (
      arith,
      place_there (given_in c.args.world.now) c.args.playing.now c.args.actor c.requires.playing
          (actor_there (goal.at.index-requires c).Start),
      c.args.playing.now.kept.ok,
    )

pub returns-then-halted : goal.returns-then-halted
returns-then-halted c = λ m is.
    halted_goes (given_in c.args.world.now) m c.args.playing.now c.args.actor (event_of c.args.event)
    c.index.result.now c.halted.result is (actor_there (goal.at.returns-then-halted c).Start)
    c.index.ensures c.halted.ensures c.if-halted.true

pub returns-then-playing-ge-MOST_ENTRIES : goal.returns-then-playing-ge-MOST_ENTRIES
unfolding most_entries
returns-then-playing-ge-MOST_ENTRIES c = λ m is.
    full_goes (given_in c.args.world.now) m c.args.playing.now c.args.actor (event_of c.args.event) is
    (runs_on (given_in c.args.world.now) m c.args.playing.now c.args.actor c.index.result.now c.halted.result is
    (actor_there (goal.at.returns-then-playing-ge-MOST_ENTRIES c).Start)
    c.index.ensures c.halted.ensures c.if-halted.false) c.if-playing-ge-MOST_ENTRIES.true

pub act-requires-clause-running : goal.act-requires-clause-running
act-requires-clause-running c = λ m is.
    runs_on (given_in c.args.world.now) m c.args.playing.now c.args.actor c.index.result.now c.halted.result is
    (actor_there (goal.at.act-requires-clause-running c).Start)
    c.index.ensures c.halted.ensures c.if-halted.false

pub act-requires-clause-room : goal.act-requires-clause-room
unfolding most_entries
act-requires-clause-room c = omega (arith, c.if-playing-ge-MOST_ENTRIES.false)

pub returns-in_err-act : goal.returns-in_err-act
returns-in_err-act c = λ m is.
    let p = err_from_is_err_and c.from_residual.result c.from_residual.ensures.1 in
    wants (given_in c.args.world.now) c.from_residual.result p.0 _ _ p.1 p.2

pub returns : goal.returns
unfolding most_entries
returns c = λ m is.
    act_goes (given_in c.args.world.now) m c.args.playing.now _ c.args.actor (event_of c.args.event) is
    (runs_on (given_in c.args.world.now) m c.args.playing.now c.args.actor c.index.result.now c.halted.result is
    (actor_there (goal.at.returns c).Start)
    c.index.ensures c.halted.ensures c.if-halted.false)
    (omega (arith, c.if-playing-ge-MOST_ENTRIES.false)) (c.in_ok-act.ensures m is)
