-- The bench's last entry is the event's, so what the keeper appends is that entry's text. Where the keeper
-- fails no frames are given, though the bench has the entry.
use Rattle.std.proofs.Common.{true, false}
use Rattle.world_entries.specs.Entries.{event_of}
use Rattle.world_history.proofs.KeptGrows.{last_counts, kept_added, fits_added}
use Rattle.world_history.proofs.kept_actor.act_and_keep.Goals as goal

pub keep_last-requires : goal.keep_last-requires
keep_last-requires c =
    last_counts c.args.bench.now c.act.new.self c.args.stamp (event_of c.args.event)
    c.in_ok-frames.ensures.entry c.requires.count

pub returns-then-not-kept-clause-kept : goal.returns-then-not-kept-clause-kept
returns-then-not-kept-clause-kept c =
    kept_added c.args.bench.now c.act.new.self c.args.keeper.now c.keep_last.new.keeper c.args.stamp
    (event_of c.args.event) c.in_ok-kept.kept false
    c.in_ok-frames.ensures.entry c.in_ok-kept.ensures.kept c.if-not-kept.true

pub returns-then-not-kept-clause-writable : goal.returns-then-not-kept-clause-writable
returns-then-not-kept-clause-writable c =
    fits_added c.args.bench.now c.act.new.self c.args.stamp (event_of c.args.event)
    c.in_ok-frames.ensures.entry c.in_ok-kept.ensures.fits

pub returns-clause-kept : goal.returns-clause-kept
returns-clause-kept c =
    kept_added c.args.bench.now c.act.new.self c.args.keeper.now c.keep_last.new.keeper c.args.stamp
    (event_of c.args.event) c.in_ok-kept.kept true
    c.in_ok-frames.ensures.entry c.in_ok-kept.ensures.kept c.if-not-kept.false

pub returns-clause-writable : goal.returns-clause-writable
returns-clause-writable c =
    fits_added c.args.bench.now c.act.new.self c.args.stamp (event_of c.args.event)
    c.in_ok-frames.ensures.entry c.in_ok-kept.ensures.fits
