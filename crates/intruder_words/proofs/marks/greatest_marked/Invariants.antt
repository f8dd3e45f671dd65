use Rattle.std.proofs.Common.{◌≡◌, take}
use Rattle.std.specs.List.{filter_map}
use Rattle.protocol_rules.specs.Words.{greatest_of}
use Rattle.protocol_rules.specs.Group.{group_of}
use Rattle.intruder_words.specs.Marking.{shown_by}
use Rattle.intruder_words.proofs.marks.greatest_marked.Given as goal

abbrev pub invariant-loop-mark : goal.invariant-loop-mark
invariant-loop-mark l = l.greatest ≡ greatest_of
    (filter_map (shown_by (group_of l.sizes 0) l.marks) (take l.mark-index l.marks))
