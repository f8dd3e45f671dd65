-- The count is how many of the parts gone over are forged, for each setup with these masters, and so never more
-- than those parts.
use Rattle.std.proofs.Common.{◌≡◌, ◌≤◌, List, length, filter, take}
use Rattle.history_rules.specs.Events.{Entry}
use Rattle.history_rules.specs.Setup.{Setup}
use Rattle.history_rules.specs.Counts.{is_forged}
use Rattle.history_audit.specs.Counting.{HasMasters}
use Rattle.history_audit.specs.Said.{words_said, HasWords}
use Rattle.history_audit.proofs.counting.count_forged.Given as goal

abbrev pub invariant-loop-part : goal.invariant-loop-part
invariant-loop-part l =
    (l.forged ≤ l.part-index)
    × ((w : Setup) (before : List Entry) → HasMasters l.scenario.sizes.n l.scenario.intruded w →
    HasWords (words_said before) l.said
    → l.forged ≡ length (filter (is_forged w before) (take l.part-index l.parts)))
