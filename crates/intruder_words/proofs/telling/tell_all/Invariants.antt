use Rattle.std.proofs.Common.{take}
use Rattle.protocol_rules.specs.Group.{group_of}
use Rattle.protocol_rules.specs.Facts.{facts_of}
use Rattle.intruder_words.specs.Telling.{KnowsAlike}
use Rattle.intruder_words.proofs.telling.tell_all.Given as goal

abbrev pub invariant-loop-frame : goal.invariant-loop-frame
invariant-loop-frame l = KnowsAlike l.question (group_of l.sizes 0) l.order
    (facts_of (group_of l.sizes 0) (take l.frame-index l.known))
