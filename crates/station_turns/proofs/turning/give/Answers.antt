-- The next input is an event, or a word that the master can't say now. The event uses it up, and an unsaid word
-- stays next while the entry is a tick.
use Rattle.std.proofs.Common.{◌≡◌, ◌∷◌, [], refl}
use Rattle.std.specs.Prelude.{Some, None}
use Rattle.history_rules.specs.Events.{Tick}
use Rattle.world_entries.specs.Entries.{event_of}
use Rattle.station_turns.specs.Turns.{stationed}
use Rattle.station_turns.proofs.InputGiven.{inside_fits}
use Rattle.station_turns.proofs.SkipsOfTurn.{kept_so}
use Rattle.station_turns.proofs.EntryAdded.{
  IsGiven,
  none_given,
  some_given,
  next_is,
  input_fits,
  input_enters,
  input_used,
}
use Rattle.station_turns.proofs.EntryAdded.{named_cried, stand_before, unsaid_enters, unsaid_used}
use Rattle.station_turns.proofs.turning.give.Goals.{In-Some, In_default}
use Rattle.station_turns.proofs.turning.give.Goals as goal

pub add-requires-clause-fits : goal.add-requires-clause-fits
add-requires-clause-fits c = inside_fits c.event_given.new.kept.bench Tick refl

-- what the next input gave: nothing that can be said now, or an event
none_now : (c : In_default) →
    IsGiven (stationed c.args.live.now) c.index-input.result.now c.event_given.new.kept.bench None
none_now c = record {
  next = next_is (stationed c.args.live.now) c.args.live.now.used c.index-input.result.now c.requires.used
      c.requires.left c.index-input.ensures;
  after_is = c.in_ok-event.ensures.bench;
  given_is = none_given _ _ c.in_ok-event.ensures.event c.in_default.is;
}

event_now : (c : In-Some) → IsGiven (stationed c.args.live.now) c.index-input.result.now
    c.event_given.new.kept.bench (Some (event_of c.in-Some.event))
event_now c = record {
  next = next_is (stationed c.args.live.now) c.args.live.now.used c.index-input.result.now c.requires.used
      c.requires.left c.index-input.ensures;
  after_is = c.in_ok-event.ensures.bench;
  given_is = some_given _ _ c.in-Some.event c.in_ok-event.ensures.event c.in-Some.is;
}

pub returns-in_default-clause-enters : goal.returns-in_default-clause-enters
returns-in_default-clause-enters c =
    unsaid_enters (stationed c.args.live.now) (kept_so (stationed c.args.live.now) c.add.new.kept)
    c.args.stamp c.index-input.result.now c.event_given.new.kept.bench _ c.requires.can
    (none_now (goal.at.returns-in_default-clause-enters c).In_default)
    c.in_ok-posting.ensures.entry c.in_ok-posting.ensures.works refl refl refl c.in_ok-posting.ensures.stamp
    c.in_ok-posting.ensures.frames c.in_ok-posting.ensures.cried c.new.ensures

pub returns-in_default-clause-stand : goal.returns-in_default-clause-stand
returns-in_default-clause-stand c =
    stand_before c.args.live.now.kept.bench c.event_given.new.kept.bench c.index-input.result.now
    c.in_ok-posting.posting.cries c.in_ok-posting.posting.frames.items c.in_ok-event.ensures.bench
    c.in_ok-posting.ensures.stand

pub returns-in_default-clause-used : goal.returns-in_default-clause-used
returns-in_default-clause-used c =
    unsaid_used (stationed c.args.live.now) (kept_so (stationed c.args.live.now) c.add.new.kept)
    c.args.stamp c.args.live.now.used c.index-input.result.now c.event_given.new.kept.bench
    (none_now (goal.at.returns-in_default-clause-used c).In_default)
    c.in_ok-posting.ensures.entry c.requires.used

pub add-requires-2-clause-fits : goal.add-requires-2-clause-fits
add-requires-2-clause-fits c =
    input_fits (stationed c.args.live.now) (c.args.stamp ∷ []) c.index-input.result.now c.event_given.new.kept.bench
    (event_of c.in-Some.event) c.requires.can.steady
    (event_now (goal.at.add-requires-2-clause-fits c).In-Some)

pub returns-clause-enters : goal.returns-clause-enters
returns-clause-enters c =
    input_enters (stationed c.args.live.now) (kept_so (stationed c.args.live.now) c.add-2.new.kept)
    c.args.stamp c.index-input.result.now c.event_given.new.kept.bench (event_of c.in-Some.event) _
    c.requires.can
    (event_now (goal.at.returns-clause-enters c).In-Some)
    c.in_ok-posting-2.ensures.entry c.in_ok-posting-2.ensures.works refl refl refl c.in_ok-posting-2.ensures.stamp
    c.in_ok-posting-2.ensures.frames c.in_ok-posting-2.ensures.cried
    (named_cried c.in_ok-posting-2.posting.cries (event_of c.in-Some.event) c.index-input.result.now c.in_ok-to.to
    c.in_ok-to.ensures c.in_ok-posting-2.ensures.cried)

pub returns-clause-stand : goal.returns-clause-stand
returns-clause-stand c =
    stand_before c.args.live.now.kept.bench c.event_given.new.kept.bench c.index-input.result.now
    c.in_ok-posting-2.posting.cries c.in_ok-posting-2.posting.frames.items
    c.in_ok-event.ensures.bench c.in_ok-posting-2.ensures.stand

pub returns-clause-used : goal.returns-clause-used
returns-clause-used c =
    input_used (stationed c.args.live.now) (kept_so (stationed c.args.live.now) c.add-2.new.kept)
    c.args.stamp c.args.live.now.used c.index-input.result.now c.event_given.new.kept.bench
    (event_of c.in-Some.event)
    (event_now (goal.at.returns-clause-used c).In-Some)
    c.in_ok-posting-2.ensures.entry c.requires.used
