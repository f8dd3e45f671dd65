-- The rows noted are those that the rules make of the proposal's frames, so their text is the one that is added.
use Rattle.std.proofs.Common.{ℕ, List, ◌++◌, ◌∷◌, [], subst, ap, ◌∙◌}
use Rattle.message_types.specs.declared.signed.Signed.{Signed}
use Rattle.message_types.specs.declared.preordering.PoSummary.{PoSummary}
use Rattle.message_types.specs.Texts.{rows_text}
use Rattle.protocol_rules.specs.Matrix.{rows_of_frames}
use Rattle.history_audit.specs.Texts.{AreTexts}
use Rattle.history_audit.proofs.texts.note_proposal.Goals as goal

pub returns : goal.returns
returns c = λ g n given are.
    subst (λ (rows : List (List ℕ)). AreTexts (given ++ rows_text rows ∷ []) c.note_rows.new.kept)
    (c.in_ok-rows.ensures g n ∙ ap (λ (fs : List (Signed PoSummary)). rows_of_frames g fs) c.as_slice.ensures)
    (c.in_ok-note_rows.ensures given are)
