use Rattle.std.proofs.Common.{ℕ, List, ◌++◌, ◌∷◌, [], subst}
use Rattle.history_audit.specs.Texts.{AreTexts}
use Rattle.history_audit.proofs.texts.note_rows.Goals as goal

pub returns : goal.returns
returns c = λ given are. subst (λ (t : List ℕ). AreTexts (given ++ t ∷ []) c.note.new.self) c.in_ok-text.ensures
    (c.in_ok-note.ensures given are)
