use Rattle.std.proofs.Common.{◌++◌, List, take}
use Rattle.message_types.specs.declared.signed.Signed.{Signed}
use Rattle.message_types.specs.declared.body.Body.{Body}
use Rattle.protocol_rules.specs.Group.{Group}
use Rattle.preorder.specs.Index.{HasFirsts, AcknowledgesKnown}
use Rattle.preorder.proofs.firsts.note_said.Given as goal

-- the bodies so far are noted
abbrev pub invariant-loop-body : goal.invariant-loop-body
invariant-loop-body l = (g : Group) (known : List (Signed Body)) (said : List Body) → AcknowledgesKnown known l.bodies →
    HasFirsts g known said l.fn.firsts.entries → HasFirsts g known (said ++ take l.body-index l.bodies) l.firsts.entries
