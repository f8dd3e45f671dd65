-- An entry's frames are kept by its actor's bench at the entry's place among its own, so the one looked for is
-- found there. A cry's frame is read of its bytes, and where there is no entry nothing was said.
use Rattle.std.proofs.Common.{◌≡◌, map, get_or, option_copied, refl, sym, ◌∙◌, ap}
use Rattle.std.specs.Prelude.{Some, slice_get}
use Rattle.scenario_file.specs.Reading.{contents}
use Rattle.world_entries.specs.Entries.{entry_of}
use Rattle.world_entries.specs.declared.entry.Event.TheVariants as kept
use Rattle.world_rules.specs.Scenarios.{setup_of}
use Rattle.printed_run.proofs.SaidThere.{kept_there, kept_found, kept_missing, none_kept, none_said, silent_event}
use Rattle.printed_run.proofs.SaidThere.{cry_answered}
use Rattle.printed_run.proofs.WhatIsAtHand.{actor_there, place_there, frame_posted}
use Rattle.printed_run.proofs.said.AtHand.was_said.Goals.{In-Some}
use Rattle.printed_run.proofs.said.AtHand.was_said.Goals as goal

pub returns-in_default : goal.returns-in_default
returns-in_default c =
    none_said (setup_of (contents c.args.self.now.scenario.now)) (map entry_of c.args.self.now.entries.now)
    c.args.stamp c.args.place c.args.frame.now
    (none_kept c.args.self.now.entries.now c.args.stamp
    (kept_missing c.args.self.now.entries.now c.args.stamp c.in_default.ensures.lookup.0))

-- the entry of the stamp, as it is kept and as the history has it
entry_found : (c : In-Some) → slice_get c.args.self.now.entries.now c.args.stamp ≡ Some c.in-Some.entry.now
entry_found c = kept_found c.args.self.now.entries.now c.args.stamp c.in-Some.entry.now c.in-Some.ensures.lookup.0
    c.in-Some.ensures.lookup.1

entry_there : (c : In-Some) →
    slice_get (map entry_of c.args.self.now.entries.now) c.args.stamp ≡ Some (entry_of c.in-Some.entry.now)
entry_there c = kept_there c.args.self.now.entries.now c.args.stamp c.in-Some.entry.now (entry_found c)

pub bounds-self-entry : goal.bounds-self-entry
bounds-self-entry c =
    actor_there (contents c.args.self.now.scenario.now) (map entry_of c.args.self.now.entries.now)
    c.args.self.now.benches.now c.args.self.now.places.now c.args.stamp
    (entry_of c.in-Some.entry.now) c.requires (entry_there (goal.at.bounds-self-entry c).In-Some)

pub bounds-self-stamp : goal.bounds-self-stamp
bounds-self-stamp c =
    place_there (contents c.args.self.now.scenario.now) (map entry_of c.args.self.now.entries.now)
    c.args.self.now.benches.now c.args.self.now.places.now c.args.stamp
    (entry_of c.in-Some.entry.now) c.requires (entry_there (goal.at.bounds-self-stamp c).In-Some)

pub returns-in-Cry : goal.returns-in-Cry
returns-in-Cry c =
    cry_answered (contents c.args.self.now.scenario.now) c.args.self.now.entries.now c.args.stamp c.args.place
    c.in-Some.entry.now c.as_slice.result.now c.args.frame.now
    c.is_cried.result c.requires.is_legal
    (entry_found (goal.at.returns-in-Cry c).In-Some) (c.in-Cry.is ∙ ap kept.Cry (sym c.as_slice.ensures))
    c.is_cried.ensures

pub returns-in_default-event : goal.returns-in_default-event
returns-in_default-event c =
    frame_posted (contents c.args.self.now.scenario.now) (map entry_of c.args.self.now.entries.now)
    c.args.self.now.benches.now c.args.self.now.places.now c.args.stamp
    (get_or c.args.self.now.places.now c.args.stamp 0) 0 c.args.place (entry_of c.in-Some.entry.now)
    (get_or c.args.self.now.benches.now c.in-Some.entry.now.actor c.index-self-entry.result) c.index-self-entry.result
    (option_copied c.frames_at.result) c.args.frame.now c.is_posted.result c.requires
    (entry_there (goal.at.returns-in_default-event c).In-Some)
    (silent_event c.in-Some.entry.now.event c.in_default-event.not-Cry)
    refl refl c.frames_at.ensures c.is_posted.ensures
