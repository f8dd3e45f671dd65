-- The text is that of the entry that comes next, and texts tell entries apart: so the stamp and the event read
-- are that entry's, which the bench can add.
use Rattle.std.proofs.Common.{◌∙◌, ap}
use Rattle.world_entries.specs.Entries.{event_of}
use Rattle.bench_rules.specs.Lists.{frames_after}
use Rattle.world_history.specs.State.{setup_in}
use Rattle.world_history.proofs.KeptBytesReplay.{next_kept, can_act, read_is, replayed_one}
use Rattle.world_history.proofs.Answering.{on_ok, if_ok}
use Rattle.world_history.proofs.reviving.replay_one.Goals as goal

pub read_kept-requires : goal.read_kept-requires
read_kept-requires c = next_kept c.args.bench.now c.args.bytes.now c.requires

pub act-requires-clause-fits : goal.act-requires-clause-fits
act-requires-clause-fits c =
    (can_act c.args.bench.now c.args.bytes.now c.in_ok-stamp.stamp (event_of c.in_ok-stamp.event)
    c.requires c.in_ok-stamp.ensures.found c.in_ok-stamp.ensures.fits).fits

pub act-requires-clause-later : goal.act-requires-clause-later
act-requires-clause-later c =
    (can_act c.args.bench.now c.args.bytes.now c.in_ok-stamp.stamp (event_of c.in_ok-stamp.event)
    c.requires c.in_ok-stamp.ensures.found c.in_ok-stamp.ensures.fits).later

pub act-requires-clause-taken : goal.act-requires-clause-taken
act-requires-clause-taken c =
    (can_act c.args.bench.now c.args.bytes.now c.in_ok-stamp.stamp (event_of c.in_ok-stamp.event)
    c.requires c.in_ok-stamp.ensures.found c.in_ok-stamp.ensures.fits).taken

pub returns-clause-entry : goal.returns-clause-entry
returns-clause-entry c = on_ok c.act.result c.act.ensures.entry (λ added e wide adds kept.
    let is = read_is c.args.bench.now c.args.bytes.now c.in_ok-stamp.stamp (event_of c.in_ok-stamp.event)
    e c.in_ok-stamp.ensures.found c.in_ok-stamp.ensures.fits wide adds kept in
    replayed_one c.args.bench.now c.act.new.self c.args.bytes.now c.in_ok-stamp.stamp
    (event_of c.in_ok-stamp.event) e added is)

pub returns-clause-frames : goal.returns-clause-frames
returns-clause-frames c = if_ok c.act.result c.act.ensures.frames (λ frames made e wide adds kept.
    let is = read_is c.args.bench.now c.args.bytes.now c.in_ok-stamp.stamp (event_of c.in_ok-stamp.event)
    e c.in_ok-stamp.ensures.found c.in_ok-stamp.ensures.fits wide adds kept in
    made ∙ ap (frames_after (setup_in c.args.bench.now) c.args.bench.now.actor c.args.bench.now.list) is)
