use Rattle.std.proofs.Common.{◌≡◌, ℕ, List, ◌++◌, take}
use Rattle.std.specs.List.{flat_map}
use Rattle.message_types.specs.declared.signed.Signed.{Signed}
use Rattle.message_types.specs.declared.body.Body.{Body}
use Rattle.protocol_rules.specs.Group.{Group}
use Rattle.history_rules.specs.Audit.{texts_of}
use Rattle.history_audit.specs.Texts.{AreTexts}
use Rattle.history_audit.proofs.texts.note_parts.Given as goal

abbrev pub invariant-loop-part : goal.invariant-loop-part
invariant-loop-part l = (g : Group) → l.sizes.n ≡ g.n → (given : List (List ℕ)) → AreTexts given l.fn.kept →
    AreTexts (given ++ flat_map (λ (p : Signed Body). texts_of g p.body) (take l.part-index l.parts)) l.kept
