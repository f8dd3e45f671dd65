use Rattle.std.proofs.Common.{◌++◌, ℕ, List, take}
use Rattle.message_types.specs.declared.signed.Signed.{Signed}
use Rattle.message_types.specs.declared.body.Body.{Body}
use Rattle.protocol_rules.specs.Group.{Group}
use Rattle.master_knowledge.specs.Past.{Past}
use Rattle.master_knowledge.specs.Knows.{Knows}
use Rattle.master_knowledge.proofs.knowledge.Knowledge.recall.Given as goal

abbrev pub invariant-loop-part : goal.invariant-loop-part
invariant-loop-part l = (g : Group) (me : ℕ) (taken known : List (Signed Body)) (past : Past) (said : List Body)
    → Knows g me l.fn.self taken known past said →
    Knows g me l.self taken (known ++ take l.part-index l.part-items) past said
