-- An event that goes by no input uses none up, so the inputs used stay those of the list. What the entry says
-- is posted as it stands, and the frame held back is given back.
use Rattle.std.proofs.Common.{refl}
use Rattle.world_entries.specs.Entries.{event_of}
use Rattle.station_turns.specs.Turns.{stationed}
use Rattle.station_turns.proofs.InputGiven.{inside_fits}
use Rattle.station_turns.proofs.SkipsOfTurn.{kept_so}
use Rattle.station_turns.proofs.EntryAdded.{inside_enters, inside_used}
use Rattle.station_turns.proofs.turning.enter.Goals as goal

pub add-requires-clause-fits : goal.add-requires-clause-fits
add-requires-clause-fits c = inside_fits c.args.live.now.kept.bench (event_of c.args.event) c.requires.inside

pub returns-clause-enters : goal.returns-clause-enters
returns-clause-enters c =
    inside_enters (stationed c.args.live.now) (kept_so (stationed c.args.live.now) c.add.new.kept) c.args.stamp
    (event_of c.args.event) _ c.requires.can c.requires.inside c.requires.taken
    c.in_ok-posting.ensures.entry c.in_ok-posting.ensures.works refl refl refl c.in_ok-posting.ensures.stamp
    c.in_ok-posting.ensures.frames c.in_ok-posting.ensures.cried c.new.ensures

pub returns-clause-used : goal.returns-clause-used
returns-clause-used c =
    inside_used (stationed c.args.live.now) (kept_so (stationed c.args.live.now) c.add.new.kept)
    c.args.stamp c.args.live.now.used (event_of c.args.event) c.requires.inside
    c.in_ok-posting.ensures.entry c.requires.used
