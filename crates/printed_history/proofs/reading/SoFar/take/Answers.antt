-- An actor that isn't running, an event that isn't found, or one that isn't of the actor's role makes no entry. With all
-- tests passed all is given that entering asks for.
use Rattle.std.proofs.Common.{◌<◌, length, sym, ◌∙◌, ap, arith}
use Rattle.world_entries.specs.Entries.{event_of}
use Rattle.printed_history.specs.Histories.{standing_event, event_from}
use Rattle.printed_history.specs.Reading.{world_in, event_found}
use Rattle.printed_history.proofs.NextEntry.{bench_there, fits_there}
use Rattle.printed_history.proofs.EventTold.{taken_well}
use Rattle.printed_history.proofs.TakenNext.{no_run, no_event_next, no_role_next, comes_next}
use Rattle.printed_history.proofs.reading.SoFar.take.Goals as goal

pub returns-then-not-is_running : goal.returns-then-not-is_running
returns-then-not-is_running c =
    no_run (world_in c.args.self.now) c.args.self.now.history c.args.actor
    (standing_event (world_in c.args.self.now)
    (event_from (world_in c.args.self.now) c.args.self.now.history c.args.line)) c.args.self.now
    (sym c.is_running.ensures ∙ c.if-not-is_running.true)

pub returns-in_default : goal.returns-in_default
returns-in_default c =
    no_event_next (world_in c.args.self.now) c.args.self.now.history c.args.actor
    (standing_event (world_in c.args.self.now)
    (event_from (world_in c.args.self.now) c.args.self.now.history c.args.line)) c.args.self.now
    (sym (ap event_found c.in_default.is) ∙ c.in_ok-found.ensures)

pub index-requires : goal.index-requires
index-requires c =
    let there : c.place-place.result < length c.args.self.now.benches.items =
    bench_there c.args.self.now c.args.actor c.place-place.result c.requires.at_hand
    (sym c.is_running.ensures ∙ c.if-not-is_running.false) c.place-place.ensures in
    omega (arith, c.args.self.now.benches.ok)

pub returns-then-not-fits : goal.returns-then-not-fits
returns-then-not-fits c =
    no_role_next (world_in c.args.self.now) c.args.self.now.history c.args.actor (event_of c.in-Some.event)
    (standing_event (world_in c.args.self.now)
    (event_from (world_in c.args.self.now) c.args.self.now.history c.args.line)) c.args.self.now
    (sym (ap event_found c.in-Some.is) ∙ c.in_ok-found.ensures) (sym c.is_running.ensures ∙ c.if-not-is_running.false)
    (sym (fits_there c.args.self.now c.args.actor c.place-place.result (event_of c.in-Some.event) c.index.result.now
    c.requires.at_hand (sym c.is_running.ensures ∙ c.if-not-is_running.false)
    (record { own = c.requires.own; here = c.place-place.ensures; found = c.index.ensures })) ∙ sym c.fits.ensures ∙
    c.if-not-fits.true)

pub enter-requires-clause-running : goal.enter-requires-clause-running
enter-requires-clause-running c = sym c.is_running.ensures ∙ c.if-not-is_running.false

pub enter-requires-clause-fits : goal.enter-requires-clause-fits
enter-requires-clause-fits c =
    sym (fits_there c.args.self.now c.args.actor c.place-place.result (event_of c.in-Some.event) c.index.result.now
    c.requires.at_hand (sym c.is_running.ensures ∙ c.if-not-is_running.false)
    (record { own = c.requires.own; here = c.place-place.ensures; found = c.index.ensures })) ∙ sym c.fits.ensures ∙
    c.if-not-fits.false

pub enter-requires-clause-taken : goal.enter-requires-clause-taken
enter-requires-clause-taken c =
    taken_well (world_in c.args.self.now) c.args.self.now.history c.args.line (event_of c.in-Some.event)
    (sym (ap event_found c.in-Some.is) ∙ c.in_ok-found.ensures)

pub returns : goal.returns
returns c =
    comes_next (world_in c.args.self.now) c.args.self.now.history c.args.actor (event_of c.in-Some.event)
    (standing_event (world_in c.args.self.now)
    (event_from (world_in c.args.self.now) c.args.self.now.history c.args.line)) c.args.self.now _
    (sym (ap event_found c.in-Some.is) ∙ c.in_ok-found.ensures) (sym c.is_running.ensures ∙ c.if-not-is_running.false)
    (sym (fits_there c.args.self.now c.args.actor c.place-place.result (event_of c.in-Some.event) c.index.result.now
    c.requires.at_hand (sym c.is_running.ensures ∙ c.if-not-is_running.false)
    (record { own = c.requires.own; here = c.place-place.ensures; found = c.index.ensures })) ∙ sym c.fits.ensures ∙
    c.if-not-fits.false)
    c.in_ok-enter.ensures
