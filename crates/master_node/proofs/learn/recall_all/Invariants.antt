-- For whatever was known before, the parts of the frames so far are known as well. Nothing else that the
-- knowledge goes by changes.
use Rattle.std.proofs.Common.{◌++◌, ℕ, List, take}
use Rattle.std.specs.List.{flat_map}
use Rattle.message_types.specs.declared.signed.Signed.{Signed}
use Rattle.message_types.specs.declared.body.Body.{Body}
use Rattle.message_types.specs.Parts.{parts}
use Rattle.protocol_rules.specs.Group.{Group}
use Rattle.master_knowledge.specs.Past.{Past}
use Rattle.master_knowledge.specs.Knows.{Knows}
use Rattle.master_node.proofs.learn.recall_all.Given as goal

abbrev pub invariant-loop-frame : goal.invariant-loop-frame
invariant-loop-frame l = (g : Group) (me : ℕ) (taken known : List (Signed Body)) (past : Past) (said : List Body)
    → Knows g me l.fn.knowledge taken known past said →
    Knows g me l.knowledge taken (known ++ flat_map parts (take l.frame-index l.frame-items)) past said
