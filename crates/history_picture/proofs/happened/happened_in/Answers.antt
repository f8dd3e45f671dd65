-- The benches always are those of the entries gone over. As the history is legal, the next entry's actor has a bench that
-- can do it, and the entry's mark is told by this bench before and after.
use Rattle.std.proofs.Common.{◌≡◌, ◌∙◌, ◌<◌, ◌^◌, length, map, refl, sym, ap, arith}
use Rattle.std.proofs.lemmas.List.{length-map}
use Rattle.scenario_file.specs.Reading.{contents}
use Rattle.world_entries.specs.Entries.{entry_of, event_of}
use Rattle.world_history.proofs.HistoryReplays.{Comes, IsReady, all_replayed, next_comes, bench_there, bench_ready, benches_grow}
use Rattle.history_picture.specs.Marks.{lane_of, what_of}
use Rattle.history_picture.proofs.Marked.{all_marked, bench_works, lanes_are, marks_more, none_marked}
use Rattle.history_picture.proofs.happened.happened_in.Goals.{After-index_mut}
use Rattle.history_picture.proofs.happened.happened_in.Goals as goal

-- the entry gone over comes next
comes : (c : After-index_mut) → Comes (contents c.args.scenario.now) c.args.history.now c.loop-entry.entry-index
    (entry_of c.entry-item.result)
comes c = next_comes (contents c.args.scenario.now) c.args.history.now c.entries-entries.result.now
    c.loop-entry.entry-index c.entry-item.result
    c.entries-entries.ensures c.requires.legal c.loop-entry-test.true c.entry-item.is

ready : (c : After-index_mut) → IsReady (2 ^ 32) c.index_mut.result.now c.entry-item.result.stamp
    (event_of c.entry-item.result.event)
ready c = bench_ready (contents c.args.scenario.now) c.args.history.now c.loop-entry.entry-index (2 ^ 32)
    (entry_of c.entry-item.result) (event_of c.entry-item.result.event)
    c.loop-entry.benches.items c.index_mut.result.now (comes c) c.requires.short refl
    c.loop-entry.invariant.0 c.index_mut.ensures.value

pub index_mut-requires : goal.index_mut-requires
index_mut-requires c =
    let there : c.entry-item.result.actor < length c.loop-entry.benches.items =
    bench_there (contents c.args.scenario.now) c.args.history.now c.loop-entry.entry-index
    (entry_of c.entry-item.result) c.loop-entry.benches.items
    (next_comes (contents c.args.scenario.now) c.args.history.now c.entries-entries.result.now
    c.loop-entry.entry-index c.entry-item.result
    c.entries-entries.ensures c.requires.legal c.loop-entry-test.true c.entry-item.is) c.loop-entry.invariant.0 in
    omega (arith, c.loop-entry.benches.ok)

pub push_mark-requires-clause-fits : goal.push_mark-requires-clause-fits
push_mark-requires-clause-fits c = (ready c).fits

pub push_mark-requires-clause-later : goal.push_mark-requires-clause-later
push_mark-requires-clause-later c = (ready c).later

pub push_mark-requires-clause-taken : goal.push_mark-requires-clause-taken
push_mark-requires-clause-taken c = (ready c).taken

pub push_mark-requires-clause-short : goal.push_mark-requires-clause-short
push_mark-requires-clause-short c = (ready c).short

pub push_mark-requires-clause-works : goal.push_mark-requires-clause-works
push_mark-requires-clause-works c =
    bench_works (contents c.args.scenario.now) c.args.history.now c.loop-entry.entry-index
    (entry_of c.entry-item.result) c.loop-entry.benches.items c.index_mut.result.now
    (comes c) c.loop-entry.invariant.0
    c.index_mut.ensures.value

pub loop-entry-init : goal.loop-entry-init
loop-entry-init c = (
  c.in_ok-benches.ensures,
  none_marked (contents c.args.scenario.now) c.args.history.now _ c.new-marks.ensures.items,
)

pub loop-entry-preserved : goal.loop-entry-preserved
loop-entry-preserved c =
    let next = comes (goal.at.loop-entry-preserved c).After-index_mut in (
      benches_grow (contents c.args.scenario.now) c.args.history.now c.loop-entry.entry-index
          (entry_of c.entry-item.result) (event_of c.entry-item.result.event)
          c.loop-entry.benches.items _ c.index_mut.result.now c.push_mark.new.bench next refl
          c.loop-entry.invariant.0 c.index_mut.ensures.value c.in_ok-push_mark.ensures.bench refl,
      marks_more (contents c.args.scenario.now) c.args.history.now c.loop-entry.entry-index
          (entry_of c.entry-item.result) c.role_of-role.result c.what_of-what.result c.loop-entry.benches.items _ c.index_mut.result.now
          c.push_mark.new.bench c.loop-entry.marks.items _ next c.role_of-role.ensures
          (c.what_of-what.ensures
          ∙ ap (λ es. what_of es (event_of c.entry-item.result.event)) c.entries-entries.ensures)
          c.loop-entry.invariant.0
          c.index_mut.ensures.value c.in_ok-push_mark.ensures.bench refl c.loop-entry.invariant.1
          c.in_ok-push_mark.ensures.marks,
    )

pub returns-clause-lanes : goal.returns-clause-lanes
returns-clause-lanes c =
    lanes_are (contents c.args.scenario.now) c.args.history.now c.loop-entry.benches.items c.in_ok-lanes.lanes.items
    (all_replayed (contents c.args.scenario.now) c.args.history.now c.entries-entries.result.now
    c.loop-entry.entry-index c.loop-entry.benches.items c.entries-entries.ensures c.loop-entry-test.false
    c.loop-entry.invariant.0)
    (c.in_ok-lanes.ensures ∙ ap (map (lane_of (contents c.args.scenario.now))) c.as_slice.ensures.value)

pub returns-clause-marks : goal.returns-clause-marks
returns-clause-marks c =
    let size : length c.args.history.now ≡ length c.entries-entries.result.now =
    ap length (sym c.entries-entries.ensures) ∙ length-map c.entries-entries.result.now entry_of in
    all_marked (contents c.args.scenario.now) c.args.history.now c.loop-entry.entry-index
    c.loop-entry.marks.items (omega (arith, size, c.loop-entry-test.false)) c.loop-entry.invariant.1
