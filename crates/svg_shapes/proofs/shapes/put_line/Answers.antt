-- The macro writes its pieces one by one; joined they are the text that the definition has in one.
use Rattle.std.proofs.Common.{◌++◌, ◌∙◌, List, ℕ, ap, codes, decimal}
use Rattle.std.specs.Prelude.{string_bytes}
use Rattle.svg_shapes.specs.Shapes.{line_text}
use Rattle.svg_shapes.proofs.Joined.{eleven-parts}
use Rattle.svg_shapes.proofs.shapes.put_line.Goals as goal

pub returns : goal.returns
unfolding line_text
returns c =
    c.in_ok-write.ensures.bytes
    ∙ ap (λ (t : List ℕ). string_bytes c.args.text.now ++ t)
    (eleven-parts (codes "<line x1=\"") (decimal c.args.from.0) (codes "\" y1=\"") (decimal c.args.from.1)
    (codes "\" x2=\"") (decimal c.args.to.0) (codes "\" y2=\"") (decimal c.args.to.1)
    (codes "\" stroke=\"") c.args.colour.now (codes "\"/>\n"))
