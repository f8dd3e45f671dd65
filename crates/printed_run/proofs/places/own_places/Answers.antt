-- The place of an entry is how many of its actor come before it, which is what that actor's count stands at. A
-- count is never above the number of entries gone over, so it can't overflow.
use Rattle.std.proofs.Common.{◌≤◌, arith}
use Rattle.printed_run.proofs.FramesOfEntries.{none_counted, count_small, one_placed, one_more}
use Rattle.printed_run.proofs.places.own_places.Goals as goal

pub loop-entry-init : goal.loop-entry-init
loop-entry-init c = (
  c.in_ok-places.ensures.items,
  none_counted c.args.actors c.in_ok-counts.counts.items
      (c.in_ok-counts.ensures.items_if_clones_equal (λ y h. h)),
)

pub overflow_add-index_mut : goal.overflow_add-index_mut
overflow_add-index_mut c =
    let small : c.index_mut.result.now ≤ c.loop-entry.entry-index =
    count_small c.args.entries.now c.loop-entry.entry-index c.args.actors c.index_mut.result.now c.entry-item.result
    c.loop-entry.counts.items
    c.requires c.loop-entry-test.true c.entry-item.is c.loop-entry.invariant.1 c.index_mut.ensures.value in
    omega arith

pub loop-entry-preserved : goal.loop-entry-preserved
loop-entry-preserved c = (
  one_placed c.args.entries.now c.loop-entry.entry-index c.args.actors c.index.result.now c.entry-item.result
      c.loop-entry.places.items c.loop-entry.counts.items _
      c.requires c.loop-entry-test.true c.entry-item.is c.loop-entry.invariant.0 c.loop-entry.invariant.1
      c.index.ensures c.in_ok-push.ensures.items,
  one_more c.args.entries.now c.loop-entry.entry-index c.args.actors c.index_mut.result.now c.entry-item.result
      c.loop-entry.counts.items
      c.requires c.loop-entry-test.true c.entry-item.is c.loop-entry.invariant.1 c.index_mut.ensures.value,
)
