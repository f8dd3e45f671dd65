-- The bench acts for its actor, and what it says there is what the rules make the actor say. Where the kinds
-- agree the entry comes next, and calls, frames and benches follow the history by one entry.
use Rattle.std.proofs.Common.{◌≡◌, ◌+◌, ◌^◌, ◌<◌, ◌≤◌, true, false, length, get_or, set, refl, sym, ◌∙◌, arith}
use Rattle.world_entries.specs.Entries.{event_of, entry_of}
use Rattle.printed_history.specs.Reading.{contents_in, world_in}
use Rattle.printed_history.proofs.NextEntry.{CanAct, bench_there, calls_there, calls_counted, can_act, has_more}
use Rattle.printed_history.proofs.NextEntry.{kinds_told, came, other_kinds}
use Rattle.printed_history.proofs.reading.SoFar.act.Goals as goal

pub index_mut-bench-requires : goal.index_mut-bench-requires
index_mut-bench-requires c =
    let there : c.place-place.result < length c.args.self.now.benches.items =
    bench_there c.args.self.now c.args.actor c.place-place.result c.requires.at_hand c.requires.running
    c.place-place.ensures in
    omega (arith, c.args.self.now.benches.ok)

can : (c : goal.After-act_at-arg-2-1) → CanAct (2 ^ 32) c.len-stamp.result (contents_in c.args.self.now)
    (event_of c.args.event) c.index_mut-bench.result.now
can c =
    can_act c.args.self.now c.args.actor c.place-place.result (2 ^ 32) c.len-stamp.result (event_of c.args.event)
    c.index_mut-bench.result.now c.requires.at_hand c.requires.short
    (record { running = c.requires.running; fits = c.requires.fits; taken = c.requires.taken })
    (record { own = c.requires.own; here = c.place-place.ensures; found = c.index_mut-bench.ensures.value })
    c.len-stamp.ensures

pub act_at-requires-clause-fits : goal.act_at-requires-clause-fits
act_at-requires-clause-fits c = (can c).fits

pub act_at-requires-clause-later : goal.act_at-requires-clause-later
act_at-requires-clause-later c = (can c).later

pub act_at-requires-clause-taken : goal.act_at-requires-clause-taken
act_at-requires-clause-taken c = (can c).taken

pub act_at-requires-clause-short : goal.act_at-requires-clause-short
act_at-requires-clause-short c = (can c).short

pub act_at-requires-clause-works : goal.act_at-requires-clause-works
act_at-requires-clause-works c = (can c).works

pub act_at-requires-clause-ring : goal.act_at-requires-clause-ring
act_at-requires-clause-ring c = c.requires.at_hand.is_ring ∙ (can c).world

pub returns-then-not-are_kinds : goal.returns-then-not-are_kinds
returns-then-not-are_kinds c =
    other_kinds (world_in c.args.self.now) c.args.actor (event_of c.args.event)
    c.args.kinds.now c.args.self.now _ c.requires.fits
    (kinds_told c.args.self.now c.args.actor c.place-place.result c.len-stamp.result (event_of c.args.event)
    c.index_mut-bench.result.now
    (entry_of c.in_ok-entry.entry) c.as_slice.result.now c.args.kinds.now false
    c.requires.at_hand c.requires.running
    (record { own = c.requires.own; here = c.place-place.ensures; found = c.index_mut-bench.ensures.value })
    c.len-stamp.ensures
    c.in_ok-entry.ensures.entry c.as_slice.ensures
    (sym c.are_kinds.ensures ∙ c.if-not-are_kinds.true))

pub index_mut-requires : goal.index_mut-requires
index_mut-requires c =
    let there : c.args.actor < length c.args.self.now.calls.items =
    calls_there c.args.self.now c.args.actor c.requires.at_hand c.requires.running in
    omega (arith, c.args.self.now.calls.ok)

pub overflow_add-index_mut : goal.overflow_add-index_mut
overflow_add-index_mut c =
    let most = calls_counted c.args.self.now c.args.actor c.index_mut.result.now (2 ^ 32)
    c.requires.at_hand c.requires.running c.requires.short in
    let few : c.calls_at.result ≤ 2 = c.calls_at.ensures.few in
    let its : c.index_mut.result.now ≡ get_or c.args.self.now.calls.items c.args.actor c.index_mut.result.now =
    c.index_mut.ensures.value in
    let small : c.index_mut.result.now + c.calls_at.result < 18446744073709551616 = omega arith in
    omega (arith, small)

pub returns : goal.returns
returns c =
    came (world_in c.args.self.now) c.args.actor (event_of c.args.event)
    c.args.kinds.now c.args.self.now _ c.requires.fits
    (kinds_told c.args.self.now c.args.actor c.place-place.result c.len-stamp.result (event_of c.args.event)
    c.index_mut-bench.result.now
    (entry_of c.in_ok-entry.entry) c.as_slice.result.now c.args.kinds.now true
    c.requires.at_hand c.requires.running
    (record { own = c.requires.own; here = c.place-place.ensures; found = c.index_mut-bench.ensures.value })
    c.len-stamp.ensures
    c.in_ok-entry.ensures.entry c.as_slice.ensures
    (sym c.are_kinds.ensures ∙ c.if-not-are_kinds.false))
    (has_more c.args.self.now _ c.args.actor c.place-place.result (event_of c.args.event) c.index_mut-bench.result.now
    c.act_at.new.bench
    (entry_of c.in_ok-entry.entry) c.in_ok-entry.posted
    c.index_mut.result.now c.len-stamp.result c.requires.at_hand
    (record { running = c.requires.running; fits = c.requires.fits; taken = c.requires.taken })
    (record {
      now = c.len-stamp.ensures;
      same = refl;
      at_hand = refl;
      ring = refl;
      was = record { own = c.requires.own; here = c.place-place.ensures; found = c.index_mut-bench.ensures.value };
      acted = c.in_ok-entry.ensures.bench;
      made = c.in_ok-entry.ensures.entry;
      benches = refl;
      calls = λ i. set c.args.self.now.calls.items c.args.actor
          (c.index_mut.ensures.value i + c.calls_at.ensures.calls i);
      posts = c.in_ok-push.ensures.ok;
      frames = c.in_ok-entry.ensures.posted;
      history = c.in_ok-push-2.ensures.ok;
    }))
