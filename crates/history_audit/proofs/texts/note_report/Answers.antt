-- Noting each certificate adds the text of its rows, and mapping twice is mapping once.
use Rattle.std.proofs.Common.{ℕ, List, ◌++◌, map, subst, sym, ap, ◌∙◌}
use Rattle.message_types.specs.declared.ordering.Certificate.{Certificate}
use Rattle.message_types.specs.Texts.{rows_text}
use Rattle.history_audit.specs.Texts.{AreTexts}
use Rattle.plain_lists.proofs.Lists.{map_map}
use Rattle.history_audit.proofs.texts.note_report.Goals as goal

pub returns : goal.returns
returns c = λ given are.
    subst (λ (ts : List (List ℕ)). AreTexts (given ++ ts) c.note_certificates.new.kept)
    (ap (map (λ (d : Certificate). rows_text d.rows)) c.as_slice.ensures
    ∙ sym (map_map rows_text (λ (d : Certificate). d.rows) c.args.report.now.certificates))
    (c.in_ok-note_certificates.ensures given are)
