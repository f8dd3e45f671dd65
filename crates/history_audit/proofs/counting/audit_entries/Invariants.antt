-- Forged parts counted so far and those of the entries to come make the whole count, words and texts kept are
-- those of the entries gone over, and the count stays below 3347 an entry.
use Rattle.std.proofs.Common.{◌≡◌, ◌≤◌, ◌+◌, ◌*◌, map, take, drop}
use Rattle.protocol_rules.specs.Group.{Group}
use Rattle.history_rules.specs.Setup.{Setup}
use Rattle.history_rules.specs.Audit.{history_texts}
use Rattle.history_rules.specs.Counts.{forged, forged_from}
use Rattle.world_entries.specs.Entries.{entry_of}
use Rattle.history_audit.specs.Counting.{HasMasters}
use Rattle.history_audit.specs.Said.{words_said, HasWords}
use Rattle.history_audit.specs.Texts.{AreTexts}
use Rattle.history_audit.proofs.counting.audit_entries.Given as goal

abbrev pub invariant-loop-entry : goal.invariant-loop-entry
invariant-loop-entry l =
    (l.forged ≤ 3347 * l.entry-index)
    × ((w : Setup) → HasMasters l.scenario.sizes.n l.scenario.intruded w
    → l.forged + forged_from w (take l.entry-index (map entry_of l.entries))
    (drop l.entry-index (map entry_of l.entries)) ≡ forged w (map entry_of l.entries))
    × HasWords (words_said (take l.entry-index (map entry_of l.entries))) l.said
    × ((g : Group) → l.scenario.sizes.n ≡ g.n →
    AreTexts (history_texts g (take l.entry-index (map entry_of l.entries))) l.texts)
