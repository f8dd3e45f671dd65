-- The entry that a bench adds is its last, and the frames put beside it are those of that entry which stand.
-- The frames of a correct actor all do, so what is posted can be taken later by its place.
use Rattle.std.proofs.Common.{◌≡◌, ◌+◌, ◌-◌, length, sym, ◌∙◌, ap, arith}
use Rattle.std.specs.List.{list_all}
use Rattle.history_rules.specs.Setup.{stands}
use Rattle.world_entries.specs.Entries.{event_of, entry_of}
use Rattle.world_history.specs.State.{setup_in}
use Rattle.printed_history.proofs.LastFrames.{one_kept, last_added, event_made, last_posted}
use Rattle.printed_history.proofs.acting.act_at.Goals as goal

pub returns-clause-posted : goal.returns-clause-posted
returns-clause-posted c =
    let many : length c.list-list.result.now ≡ length c.args.bench.now.list + 1 =
    one_kept c.args.bench.now c.act.new.self c.args.stamp (event_of c.args.event) c.list-list.result.now
    c.in_ok-act.ensures.entry c.list-list.ensures in
    last_posted c.args.bench.now c.act.new.self c.args.ring.now c.args.stamp (length c.list-list.result.now - 1)
    (event_of c.args.event) (event_of c.in_ok-entry.entry.event)
    c.in_ok-posted.posted c.requires.ring c.requires.fits c.in_ok-act.ensures.entry (omega (arith, many))
    (ap (λ e. event_of e.event) c.in_ok-entry.ensures
    ∙ event_made c.args.bench.now c.args.stamp (event_of c.args.event) (entry_of c.index-list-last.result)
    (last_added c.args.bench.now c.act.new.self c.args.stamp (length c.list-list.result.now - 1)
    (event_of c.args.event) c.list-list.result.now c.index-list-last.result
    c.in_ok-act.ensures.entry c.list-list.ensures (omega (arith, many)) c.index-list-last.is))
    (ap (list_all (stands (setup_in c.args.bench.now))) (sym c.in_ok-act.ensures.frames) ∙ c.in_ok-act.ensures.stand)
    c.in_ok-posted.ensures
