-- Each entry has one line, and whether the frame that it took was said before is answered from the benches. So
-- the text grows by the line of one more entry each turn. Each entry was looked at before, so it can be told.
use Rattle.std.proofs.Common.{◌∙◌, arith}
use Rattle.std.specs.Prelude.{string_bytes}
use Rattle.scenario_file.specs.Reading.{contents}
use Rattle.printed_run.proofs.WhatIsAtHand.{all_benched, at_hand}
use Rattle.printed_run.proofs.LookedAt.{none_told, told_more, told_all}
use Rattle.printed_run.proofs.WholeText.{entries_more, entries_all, no_entries}
use Rattle.printed_run.proofs.printing.put_entries.Goals as goal

pub own_places-requires : goal.own_places-requires
own_places-requires c =
    all_benched (contents c.args.scenario.now) c.args.history.now c.args.benches.now c.entries-entries.result.now
    c.requires.legal c.requires.benches c.entries-entries.ensures

pub is_said-requires : goal.is_said-requires
is_said-requires c =
    at_hand (contents c.args.scenario.now) c.args.history.now c.args.benches.now c.entries-entries.result.now
    c.deref.result.now c.requires.valid c.requires.legal
    c.requires.benches c.entries-entries.ensures (c.deref.ensures.value ∙ c.in_ok-places.ensures)

pub loop-entry-init : goal.loop-entry-init
loop-entry-init c = (
  no_entries (contents c.args.scenario.now) c.args.history.now (string_bytes c.args.text.now),
  none_told (contents c.args.scenario.now) c.args.history.now,
)

pub loop-entry-preserved : goal.loop-entry-preserved
loop-entry-preserved c = (
  entries_more (contents c.args.scenario.now) c.args.history.now c.entries-entries.result.now
      c.loop-entry.entry-index c.entry-item.result c.cast-cast.result
      c.in_ok-is_said.is_said (string_bytes c.args.text.now) (string_bytes c.loop-entry.text)
      (string_bytes c.put_entry.new.text) c.entries-entries.ensures
      c.loop-entry-test.true c.entry-item.is c.cast-cast.ensures c.loop-entry.invariant.0 c.in_ok-is_said.ensures
      c.in_ok-put_entry.ensures,
  told_more (contents c.args.scenario.now) c.args.history.now c.entries-entries.result.now
      c.loop-entry.entry-index c.entry-item.result c.in_ok-is_said.is_said c.entries-entries.ensures
      c.loop-entry-test.true c.entry-item.is c.in_ok-is_said.ensures c.in_ok-look_at.ensures c.loop-entry.invariant.1,
)

pub returns-clause-text : goal.returns-clause-text
returns-clause-text c =
    entries_all (contents c.args.scenario.now) c.args.history.now c.entries-entries.result.now
    c.loop-entry.entry-index (string_bytes c.args.text.now)
    (string_bytes c.loop-entry.text) c.entries-entries.ensures (omega (arith, c.loop-entry-test.false))
    c.loop-entry.invariant.0

pub returns-clause-told : goal.returns-clause-told
returns-clause-told c =
    told_all (contents c.args.scenario.now) c.args.history.now c.entries-entries.result.now
    c.loop-entry.entry-index c.entries-entries.ensures (omega (arith, c.loop-entry-test.false))
    c.loop-entry.invariant.1
