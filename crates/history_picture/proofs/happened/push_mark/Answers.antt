-- The bench shows how far its actor had come before the entry, and how far after it.
use Rattle.std.proofs.Common.{◌∙◌, ap, subst, sym}
use Rattle.history_rules.specs.Legal.{TakesWell}
use Rattle.world_entries.specs.Entries.{entry_of, event_of}
use Rattle.world_history.specs.State.{setup_in, with_entry}
use Rattle.history_picture.specs.Marks.{last_stamp}
use Rattle.history_picture.proofs.Marked.{marked}
use Rattle.history_picture.proofs.happened.push_mark.Goals as goal

pub act-requires-clause-fits : goal.act-requires-clause-fits
act-requires-clause-fits c =
    ap (λ e. (setup_in c.args.bench.now).fits c.args.bench.now.actor (event_of e)) c.in_ok-event.ensures
    ∙ c.requires.fits

pub act-requires-clause-taken : goal.act-requires-clause-taken
act-requires-clause-taken c =
    subst (λ e. TakesWell (setup_in c.args.bench.now) c.args.entry.now.stamp (event_of e))
    (sym c.in_ok-event.ensures) c.requires.taken

pub far-requires : goal.far-requires
far-requires c = ap (λ b. b.is_spent) c.in_ok-act.ensures.entry ∙ c.requires.works

pub returns-clause-bench : goal.returns-clause-bench
returns-clause-bench c =
    c.in_ok-act.ensures.entry
    ∙ ap (λ e. with_entry c.args.bench.now c.args.entry.now.stamp (event_of e)) c.in_ok-event.ensures

pub returns-clause-marks : goal.returns-clause-marks
returns-clause-marks c =
    marked c.args.bench.now c.act.new.self (entry_of c.args.entry.now) c.args.role c.last_stamp-since.result c.args.what
    c.far-before.result c.far.result c.mark_by.result c.args.marks.now.items _
    (c.last_stamp-since.ensures ∙ ap last_stamp c.list.ensures) c.far-before.ensures c.far.ensures
    c.mark_by.ensures c.in_ok-push.ensures.items
