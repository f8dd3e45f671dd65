-- The benches always are those of the part of the history gone over. As the history is legal, the next entry's
-- actor has a bench, and the event fits it and comes later than all before: so the bench can act.
use Rattle.std.proofs.Common.{◌<◌, ◌^◌, length, refl, ap, arith}
use Rattle.scenario_file.specs.Reading.{contents}
use Rattle.world_entries.specs.Entries.{entry_of, event_of}
use Rattle.world_history.proofs.HistoryReplays.{Comes, IsReady, next_comes, all_replayed, bench_there}
use Rattle.world_history.proofs.HistoryReplays.{bench_ready_of_few, benches_grow}
use Rattle.world_history.proofs.replaying.replayed.Goals.{After-index_mut, In_ok-event}
use Rattle.world_history.proofs.replaying.replayed.Goals as goal

-- the entry gone over comes next
comes : (c : In_ok-event) → Comes (contents c.args.scenario.now) c.args.history.now c.loop-entry.entry-index
    (entry_of c.entry-item.result)
comes c = next_comes (contents c.args.scenario.now) c.args.history.now c.entries-entries.result.now
    c.loop-entry.entry-index c.entry-item.result
    c.entries-entries.ensures c.requires.legal c.loop-entry-test.true c.entry-item.is

pub index_mut-requires : goal.index_mut-requires
index_mut-requires c =
    let there : c.entry-item.result.actor < length c.loop-entry.benches.items =
    bench_there (contents c.args.scenario.now) c.args.history.now c.loop-entry.entry-index
    (entry_of c.entry-item.result) c.loop-entry.benches.items
    (comes (goal.at.index_mut-requires c).In_ok-event) c.loop-entry.invariant in
    omega (arith, c.loop-entry.benches.ok)

ready : (c : After-index_mut) → Comes (contents c.args.scenario.now) c.args.history.now c.loop-entry.entry-index
    (entry_of c.entry-item.result) → IsReady (2 ^ 32) c.index_mut.result.now c.entry-item.result.stamp
    (event_of c.in_ok-event.event)
ready c next = bench_ready_of_few (contents c.args.scenario.now) c.args.history.now c.loop-entry.entry-index (2 ^ 32)
    (entry_of c.entry-item.result) (event_of c.in_ok-event.event)
    c.loop-entry.benches.items c.index_mut.result.now next (c.requires.few c.entry-item.result.actor)
    (ap event_of c.in_ok-event.ensures)
    c.loop-entry.invariant c.index_mut.ensures.value

pub act-requires-clause-fits : goal.act-requires-clause-fits
act-requires-clause-fits c = (ready c (comes (goal.at.act-requires-clause-fits c).In_ok-event)).fits

pub act-requires-clause-later : goal.act-requires-clause-later
act-requires-clause-later c = (ready c (comes (goal.at.act-requires-clause-later c).In_ok-event)).later

pub act-requires-clause-taken : goal.act-requires-clause-taken
act-requires-clause-taken c = (ready c (comes (goal.at.act-requires-clause-taken c).In_ok-event)).taken

pub act-requires-clause-short : goal.act-requires-clause-short
act-requires-clause-short c = (ready c (comes (goal.at.act-requires-clause-short c).In_ok-event)).short

pub loop-entry-preserved : goal.loop-entry-preserved
loop-entry-preserved c =
    benches_grow (contents c.args.scenario.now) c.args.history.now c.loop-entry.entry-index
    (entry_of c.entry-item.result) (event_of c.in_ok-event.event)
    c.loop-entry.benches.items _ c.index_mut.result.now c.act.new.self
    (comes (goal.at.loop-entry-preserved c).In_ok-event) (ap event_of c.in_ok-event.ensures)
    c.loop-entry.invariant c.index_mut.ensures.value
    c.in_ok-act.ensures.entry refl

pub returns : goal.returns
returns c =
    all_replayed (contents c.args.scenario.now) c.args.history.now c.entries-entries.result.now
    c.loop-entry.entry-index c.loop-entry.benches.items
    c.entries-entries.ensures c.loop-entry-test.false c.loop-entry.invariant
