use Rattle.std.proofs.Common.{Bool, ◌&&◌, not, ap, ◌∙◌}
use Rattle.history_rules.specs.Setup.{is_correct}
use Rattle.history_audit.specs.Said.{words_said}
use Rattle.history_audit.proofs.Words.{said_before}
use Rattle.history_audit.proofs.counting.is_forged.Goals as goal

pub returns : goal.returns
returns c = λ w before masters has.
    c.is_unsaid.ensures ∙ ap (λ (b : Bool). b && not c.is_said-told.result) (c.is_correct-correct.ensures w masters)
    ∙ ap (λ (b : Bool). is_correct w c.args.part.now.signer && not b)
    (c.is_said-told.ensures (words_said before) has ∙ said_before before c.args.part.now.signer c.args.part.now.body)
