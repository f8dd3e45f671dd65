-- Forged parts counted so far and those of the entries to come always make the whole count, while the words and
-- texts kept are those of the entries before. At most 3347 parts an entry keep the count from overflow.
use Rattle.std.proofs.Common.{◌≡◌, ◌+◌, ◌<◌, ℕ, List, [], length, map, take, get_or, sym, subst, ap, ◌∙◌, arith}
use Rattle.std.proofs.lemmas.List.{take_all, length-map}
use Rattle.std.specs.List.{list_all, flat_map}
use Rattle.message_types.specs.Spelling.{body_fits}
use Rattle.history_rules.specs.Events.{Entry}
use Rattle.history_rules.specs.Audit.{bodies_of, texts_of, history_texts}
use Rattle.history_rules.specs.Counts.{forged, forged_from, alike}
use Rattle.scenario_file.specs.Reading.{contents}
use Rattle.world_entries.specs.Entries.{entry_of}
use Rattle.world_rules.specs.Scenarios.{setup_of, group_in}
use Rattle.view_change.proofs.Best.{below_mapped}
use Rattle.history_audit.specs.Said.{words_said, HasWords}
use Rattle.history_audit.specs.Texts.{AreTexts}
use Rattle.history_audit.proofs.Loops.{flat_more}
use Rattle.history_audit.proofs.Steps.{forged_more, forged_all, entry_pushed}
use Rattle.history_audit.proofs.Whole.{no_words, masters_of, intruded_of}
use Rattle.plain_lists.proofs.Lists.{all_at, mapped_at}
use Rattle.history_audit.proofs.counting.audit_entries.Goals as goal

pub loop-entry-init : goal.loop-entry-init
loop-entry-init c = (
  omega arith,
  λ w masters. let none : 0 + forged_from w [] (map entry_of c.args.entries.now) ≡ forged_from w []
      (map entry_of c.args.entries.now) = omega arith in none,
  no_words c.new-said.result c.new-said.ensures.empty,
  λ g n. c.new-texts.ensures,
)

pub take_entry-requires : goal.take_entry-requires
take_entry-requires c =
    all_at (λ (e : Entry). list_all body_fits e.said) (map entry_of c.args.entries.now) c.loop-entry.entry-index
    (entry_of c.entry-item.result) c.requires.spelled
    (below_mapped entry_of c.args.entries.now c.loop-entry.entry-index c.loop-entry-test.true)
    (mapped_at entry_of c.args.entries.now c.loop-entry.entry-index c.entry-item.result
    c.loop-entry-test.true c.entry-item.is)

pub loop-entry-preserved : goal.loop-entry-preserved
loop-entry-preserved c =
    let below : c.loop-entry.entry-index < length (map entry_of c.args.entries.now) =
    below_mapped entry_of c.args.entries.now c.loop-entry.entry-index c.loop-entry-test.true in
    let is : entry_of c.entry-item.result ≡ get_or (map entry_of c.args.entries.now) c.loop-entry.entry-index
    (entry_of c.entry-item.result) =
    mapped_at entry_of c.args.entries.now c.loop-entry.entry-index c.entry-item.result
    c.loop-entry-test.true c.entry-item.is in (
      omega (arith, c.in_ok-forged.ensures.few, c.loop-entry.invariant.0),
      λ w masters. forged_more w (map entry_of c.args.entries.now) c.loop-entry.entry-index
          (entry_of c.entry-item.result) c.loop-entry.forged c.in_ok-forged.field-0
          (forged w (map entry_of c.args.entries.now)) below is
          (c.in_ok-forged.ensures.forged w (take c.loop-entry.entry-index (map entry_of c.args.entries.now))
          masters c.loop-entry.invariant.2) (c.loop-entry.invariant.1 w masters),
      subst (λ (before : List Entry). HasWords (words_said before) c.take_entry.new.said)
          (entry_pushed (map entry_of c.args.entries.now) c.loop-entry.entry-index
          (entry_of c.entry-item.result) below is)
          (c.in_ok-forged.ensures.said (take c.loop-entry.entry-index (map entry_of c.args.entries.now))
          c.loop-entry.invariant.2),
      λ g n. subst (λ (ts : List (List ℕ)). AreTexts ts c.take_entry.new.texts)
          (sym (flat_more (λ (e : Entry). flat_map (texts_of g) (bodies_of e)) (map entry_of c.args.entries.now)
          c.loop-entry.entry-index (entry_of c.entry-item.result) below is))
          (c.in_ok-forged.ensures.texts g n
          (history_texts g (take c.loop-entry.entry-index (map entry_of c.args.entries.now)))
          (c.loop-entry.invariant.3 g n)),
    )

pub returns-clause-forged : goal.returns-clause-forged
returns-clause-forged c =
    forged_all (setup_of (contents c.args.scenario.now)) (map entry_of c.args.entries.now) c.loop-entry.entry-index
    c.loop-entry.forged (forged (setup_of (contents c.args.scenario.now)) (map entry_of c.args.entries.now))
    (omega (arith, length-map c.args.entries.now entry_of))
    (c.loop-entry.invariant.1 (setup_of (contents c.args.scenario.now))
    (masters_of (contents c.args.scenario.now) c.args.scenario.now.sizes.n c.args.scenario.now.sizes.all))

pub returns-clause-alike : goal.returns-clause-alike
returns-clause-alike c =
    c.alike.ensures (history_texts (group_in (contents c.args.scenario.now))
    (take c.loop-entry.entry-index (map entry_of c.args.entries.now)))
    (c.loop-entry.invariant.3 (group_in (contents c.args.scenario.now)) c.args.scenario.now.sizes.all)
    ∙ ap (alike (group_in (contents c.args.scenario.now)))
    (take_all c.loop-entry.entry-index (map entry_of c.args.entries.now)
    (omega (arith, length-map c.args.entries.now entry_of)))

pub returns-clause-intruded : goal.returns-clause-intruded
returns-clause-intruded c = c.count_intruded.ensures ∙ intruded_of (contents c.args.scenario.now)
    c.args.scenario.now.sizes.n c.args.scenario.now.sizes.all
