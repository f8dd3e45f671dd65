use Rattle.std.proofs.Common.{ℕ, List, ◌++◌, map, take}
use Rattle.message_types.specs.declared.ordering.Certificate.{Certificate}
use Rattle.message_types.specs.Texts.{rows_text}
use Rattle.history_audit.specs.Texts.{AreTexts}
use Rattle.history_audit.proofs.texts.note_certificates.Given as goal

abbrev pub invariant-loop-certificate : goal.invariant-loop-certificate
invariant-loop-certificate l = (given : List (List ℕ)) → AreTexts given l.fn.kept →
    AreTexts (given ++ map (λ (d : Certificate). rows_text d.rows) (take l.certificate-index l.certificates)) l.kept
