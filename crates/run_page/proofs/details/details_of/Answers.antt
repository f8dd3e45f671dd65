-- The benches always are those of the entries gone over. As the history is legal, the next entry's actor has a bench that
-- can do it, and the details of the entry are told by this bench before and after.
use Rattle.std.proofs.Common.{◌≡◌, ◌∙◌, ◌<◌, ◌^◌, length, refl, sym, ap, arith}
use Rattle.std.specs.Prelude.{string_bytes}
use Rattle.std.proofs.lemmas.List.{length-map}
use Rattle.scenario_file.specs.Reading.{contents}
use Rattle.world_entries.specs.Entries.{entry_of, event_of}
use Rattle.world_history.proofs.HistoryReplays.{Comes, IsReady, next_comes, bench_there, bench_ready, benches_grow}
use Rattle.run_page.proofs.Told.{all_told, bench_works, details_more, few_cast, none_told}
use Rattle.run_page.proofs.details.details_of.Goals.{After-index_mut}
use Rattle.run_page.proofs.details.details_of.Goals as goal

-- the entry gone over comes next
comes : (c : After-index_mut) → Comes (contents c.args.scenario.now) c.args.history.now c.loop-entry.entry-index
    (entry_of c.entry-item.result)
comes c = next_comes (contents c.args.scenario.now) c.args.history.now c.entries-entries.result.now
    c.loop-entry.entry-index c.entry-item.result
    c.entries-entries.ensures c.requires.legal c.loop-entry-test.true c.entry-item.is

ready : (c : After-index_mut) → IsReady (2 ^ 32) c.index_mut.result.now c.entry-item.result.stamp
    (event_of c.entry-item.result.event)
ready c = bench_ready (contents c.args.scenario.now) c.args.history.now c.loop-entry.entry-index (2 ^ 32)
    (entry_of c.entry-item.result) (event_of c.entry-item.result.event)
    c.loop-entry.benches.items c.index_mut.result.now (comes c) c.requires.short refl
    c.loop-entry.invariant.0 c.index_mut.ensures.value

pub index_mut-requires : goal.index_mut-requires
index_mut-requires c =
    let there : c.entry-item.result.actor < length c.loop-entry.benches.items =
    bench_there (contents c.args.scenario.now) c.args.history.now c.loop-entry.entry-index
    (entry_of c.entry-item.result) c.loop-entry.benches.items
    (next_comes (contents c.args.scenario.now) c.args.history.now c.entries-entries.result.now
    c.loop-entry.entry-index c.entry-item.result
    c.entries-entries.ensures c.requires.legal c.loop-entry-test.true c.entry-item.is) c.loop-entry.invariant.0 in
    omega (arith, c.loop-entry.benches.ok)

pub put_details-requires-clause-few : goal.put_details-requires-clause-few
put_details-requires-clause-few c =
    few_cast (contents c.args.scenario.now) c.cast-cast.result c.requires.valid c.cast-cast.ensures

pub put_details-requires-clause-fits : goal.put_details-requires-clause-fits
put_details-requires-clause-fits c = (ready c).fits

pub put_details-requires-clause-later : goal.put_details-requires-clause-later
put_details-requires-clause-later c = (ready c).later

pub put_details-requires-clause-taken : goal.put_details-requires-clause-taken
put_details-requires-clause-taken c = (ready c).taken

pub put_details-requires-clause-short : goal.put_details-requires-clause-short
put_details-requires-clause-short c = (ready c).short

pub put_details-requires-clause-works : goal.put_details-requires-clause-works
put_details-requires-clause-works c =
    bench_works (contents c.args.scenario.now) c.args.history.now c.loop-entry.entry-index
    (entry_of c.entry-item.result) c.loop-entry.benches.items c.index_mut.result.now
    (comes c) c.loop-entry.invariant.0
    c.index_mut.ensures.value

pub loop-entry-init : goal.loop-entry-init
loop-entry-init c = (
  c.in_ok-benches.ensures,
  none_told (contents c.args.scenario.now) c.args.history.now _ c.new-text.ensures.bytes,
)

pub loop-entry-preserved : goal.loop-entry-preserved
loop-entry-preserved c =
    let next = comes (goal.at.loop-entry-preserved c).After-index_mut in (
      benches_grow (contents c.args.scenario.now) c.args.history.now c.loop-entry.entry-index
          (entry_of c.entry-item.result) (event_of c.entry-item.result.event)
          c.loop-entry.benches.items _ c.index_mut.result.now c.put_details.new.bench next refl
          c.loop-entry.invariant.0 c.index_mut.ensures.value c.in_ok-put_details.ensures.bench refl,
      details_more (contents c.args.scenario.now) c.args.history.now c.loop-entry.entry-index
          (entry_of c.entry-item.result) c.cast-cast.result c.loop-entry.benches.items _ c.index_mut.result.now
          c.put_details.new.bench (string_bytes c.loop-entry.text) _ next c.cast-cast.ensures
          c.loop-entry.invariant.0 c.index_mut.ensures.value c.in_ok-put_details.ensures.bench refl
          c.loop-entry.invariant.1 c.in_ok-put_details.ensures.text,
    )

pub returns : goal.returns
returns c =
    let size : length c.args.history.now ≡ length c.entries-entries.result.now =
    ap length (sym c.entries-entries.ensures) ∙ length-map c.entries-entries.result.now entry_of in
    all_told (contents c.args.scenario.now) c.args.history.now c.loop-entry.entry-index
    (string_bytes c.loop-entry.text) (omega (arith, size, c.loop-entry-test.false)) c.loop-entry.invariant.1
