-- An event that isn't found, or isn't one of the actor's role, makes the line no entry. With both tests passed
-- all is given that acting asks for.
use Rattle.std.proofs.Common.{◌<◌, length, sym, ◌∙◌, ap, arith}
use Rattle.world_entries.specs.Entries.{event_of}
use Rattle.printed_history.specs.Histories.{standing_event, event_from}
use Rattle.printed_history.specs.Reading.{world_in, event_found}
use Rattle.printed_history.proofs.NextEntry.{bench_there, fits_there, no_event, no_role_there, adds_event}
use Rattle.printed_history.proofs.EventTold.{taken_well}
use Rattle.printed_history.proofs.reading.SoFar.add_event.Goals as goal

pub returns-in_default : goal.returns-in_default
returns-in_default c =
    no_event (world_in c.args.self.now) c.args.actor c.args.kinds.now
    (standing_event (world_in c.args.self.now)
    (event_from (world_in c.args.self.now) c.args.self.now.history c.args.line))
    c.args.self.now _ (sym (ap event_found c.in_default.is) ∙ c.in_ok-found.ensures)

pub index-requires : goal.index-requires
index-requires c =
    let there : c.place-place.result < length c.args.self.now.benches.items =
    bench_there c.args.self.now c.args.actor c.place-place.result c.requires.at_hand c.requires.running
    c.place-place.ensures in
    omega (arith, c.args.self.now.benches.ok)

pub returns-then-not-fits : goal.returns-then-not-fits
returns-then-not-fits c =
    no_role_there (world_in c.args.self.now) c.args.actor (event_of c.in-Some.event) c.args.kinds.now
    (standing_event (world_in c.args.self.now)
    (event_from (world_in c.args.self.now) c.args.self.now.history c.args.line)) c.args.self.now _
    (sym (ap event_found c.in-Some.is) ∙ c.in_ok-found.ensures)
    (sym (fits_there c.args.self.now c.args.actor c.place-place.result (event_of c.in-Some.event) c.index.result.now
    c.requires.at_hand c.requires.running
    (record { own = c.requires.own; here = c.place-place.ensures; found = c.index.ensures })) ∙ sym c.fits.ensures ∙
    c.if-not-fits.true)

pub act-requires-clause-fits : goal.act-requires-clause-fits
act-requires-clause-fits c =
    sym (fits_there c.args.self.now c.args.actor c.place-place.result (event_of c.in-Some.event) c.index.result.now
    c.requires.at_hand c.requires.running
    (record { own = c.requires.own; here = c.place-place.ensures; found = c.index.ensures })) ∙ sym c.fits.ensures ∙
    c.if-not-fits.false

pub act-requires-clause-taken : goal.act-requires-clause-taken
act-requires-clause-taken c =
    taken_well (world_in c.args.self.now) c.args.self.now.history c.args.line (event_of c.in-Some.event)
    (sym (ap event_found c.in-Some.is) ∙ c.in_ok-found.ensures)

pub returns : goal.returns
returns c =
    adds_event (world_in c.args.self.now) c.args.actor (event_of c.in-Some.event) c.args.kinds.now
    (standing_event (world_in c.args.self.now)
    (event_from (world_in c.args.self.now) c.args.self.now.history c.args.line))
    c.args.self.now c.act.new.self c.act.result
    (sym (ap event_found c.in-Some.is) ∙ c.in_ok-found.ensures) c.act.ensures
