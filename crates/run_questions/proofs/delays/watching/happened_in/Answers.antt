-- The benches always are those of the entries gone over. As the history is legal, the next entry's actor has a bench that
-- can do it, and what happened there is told by this bench before and after.
use Rattle.std.proofs.Common.{◌≡◌, ◌∙◌, ◌<◌, ◌^◌, length, refl, sym, ap, arith}
use Rattle.std.proofs.lemmas.List.{length-map}
use Rattle.scenario_file.specs.Reading.{contents}
use Rattle.world_entries.specs.Entries.{entry_of, event_of}
use Rattle.world_history.proofs.HistoryReplays.{Comes, IsReady, next_comes, bench_there, bench_ready, benches_grow}
use Rattle.run_questions.proofs.Watched.{all_happened, bench_works, happened_more, none_happened}
use Rattle.run_questions.proofs.delays.watching.happened_in.Goals.{After-index_mut}
use Rattle.run_questions.proofs.delays.watching.happened_in.Goals as goal

-- the entry gone over comes next
comes : (c : After-index_mut) → Comes (contents c.args.scenario.now) c.args.history.now c.loop-entry.entry-index
    (entry_of c.entry-item.result)
comes c = next_comes (contents c.args.scenario.now) c.args.history.now c.entries-entries.result.now
    c.loop-entry.entry-index c.entry-item.result
    c.entries-entries.ensures c.requires.legal c.loop-entry-test.true c.entry-item.is

ready : (c : After-index_mut) → IsReady (2 ^ 32) c.index_mut.result.now c.entry-item.result.stamp
    (event_of c.entry-item.result.event)
ready c = bench_ready (contents c.args.scenario.now) c.args.history.now c.loop-entry.entry-index (2 ^ 32)
    (entry_of c.entry-item.result) (event_of c.entry-item.result.event)
    c.loop-entry.benches.items c.index_mut.result.now (comes c) c.requires.short refl
    c.loop-entry.invariant.0 c.index_mut.ensures.value

pub index_mut-requires : goal.index_mut-requires
index_mut-requires c =
    let there : c.entry-item.result.actor < length c.loop-entry.benches.items =
    bench_there (contents c.args.scenario.now) c.args.history.now c.loop-entry.entry-index
    (entry_of c.entry-item.result) c.loop-entry.benches.items
    (next_comes (contents c.args.scenario.now) c.args.history.now c.entries-entries.result.now
    c.loop-entry.entry-index c.entry-item.result
    c.entries-entries.ensures c.requires.legal c.loop-entry-test.true c.entry-item.is) c.loop-entry.invariant.0 in
    omega (arith, c.loop-entry.benches.ok)

pub watch-requires-clause-fits : goal.watch-requires-clause-fits
watch-requires-clause-fits c = (ready c).fits

pub watch-requires-clause-later : goal.watch-requires-clause-later
watch-requires-clause-later c = (ready c).later

pub watch-requires-clause-taken : goal.watch-requires-clause-taken
watch-requires-clause-taken c = (ready c).taken

pub watch-requires-clause-short : goal.watch-requires-clause-short
watch-requires-clause-short c = (ready c).short

pub watch-requires-clause-works : goal.watch-requires-clause-works
watch-requires-clause-works c =
    bench_works (contents c.args.scenario.now) c.args.history.now c.loop-entry.entry-index
    (entry_of c.entry-item.result) c.loop-entry.benches.items c.index_mut.result.now
    (comes c) c.loop-entry.invariant.0
    c.index_mut.ensures.value

pub loop-entry-init : goal.loop-entry-init
loop-entry-init c = (
  c.in_ok-benches.ensures,
  none_happened (contents c.args.scenario.now) c.args.history.now _ c.new-happened.ensures.items,
)

pub loop-entry-preserved : goal.loop-entry-preserved
loop-entry-preserved c =
    let next = comes (goal.at.loop-entry-preserved c).After-index_mut in (
      benches_grow (contents c.args.scenario.now) c.args.history.now c.loop-entry.entry-index
          (entry_of c.entry-item.result) (event_of c.entry-item.result.event)
          c.loop-entry.benches.items _ c.index_mut.result.now c.watch.new.bench next refl
          c.loop-entry.invariant.0 c.index_mut.ensures.value c.in_ok-watch.ensures.bench refl,
      happened_more (contents c.args.scenario.now) c.args.history.now c.loop-entry.entry-index
          (entry_of c.entry-item.result) c.loop-entry.benches.items _ c.index_mut.result.now c.watch.new.bench
          c.loop-entry.happened.items _ next c.loop-entry.invariant.0 c.index_mut.ensures.value
          c.in_ok-watch.ensures.bench refl c.loop-entry.invariant.1 c.in_ok-watch.ensures.happened,
    )

pub returns : goal.returns
returns c =
    let size : length c.args.history.now ≡ length c.entries-entries.result.now =
    ap length (sym c.entries-entries.ensures) ∙ length-map c.entries-entries.result.now entry_of in
    all_happened (contents c.args.scenario.now) c.args.history.now c.loop-entry.entry-index
    c.loop-entry.happened.items (omega (arith, size, c.loop-entry-test.false)) c.loop-entry.invariant.1
