use Rattle.std.proofs.Common.{◌++◌, ◌∙◌, List, ℕ, ap, codes, decimal}
use Rattle.std.specs.Prelude.{string_bytes}
use Rattle.run_lines.specs.Texts.{forgery_text}
use Rattle.run_lines.proofs.Parts.{four-parts}
use Rattle.run_lines.proofs.heads.put_forgery.Goals as goal

pub returns : goal.returns
unfolding forgery_text
returns c =
    c.in_ok-write.ensures.bytes
    ∙ ap (λ (t : List ℕ). string_bytes c.args.text.now ++ t)
    (four-parts (codes "audit forged ") (decimal c.args.forged) (codes " alike ") (decimal c.args.alike))
