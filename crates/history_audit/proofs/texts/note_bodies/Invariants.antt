use Rattle.std.proofs.Common.{◌≡◌, ℕ, List, ◌++◌, take}
use Rattle.std.specs.List.{flat_map}
use Rattle.protocol_rules.specs.Group.{Group}
use Rattle.history_rules.specs.Audit.{texts_of}
use Rattle.history_audit.specs.Texts.{AreTexts}
use Rattle.history_audit.proofs.texts.note_bodies.Given as goal

abbrev pub invariant-loop-body : goal.invariant-loop-body
invariant-loop-body l = (g : Group) → l.sizes.n ≡ g.n → (given : List (List ℕ)) → AreTexts given l.fn.kept →
    AreTexts (given ++ flat_map (texts_of g) (take l.body-index l.bodies)) l.kept
