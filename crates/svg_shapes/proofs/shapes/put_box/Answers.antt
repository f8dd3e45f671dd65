-- The macro writes its pieces one by one; joined they are the text that the definition has in one.
use Rattle.std.proofs.Common.{◌++◌, ◌∙◌, List, ℕ, ap, codes, decimal}
use Rattle.std.specs.Prelude.{string_bytes}
use Rattle.svg_shapes.specs.Shapes.{box_text}
use Rattle.svg_shapes.proofs.Joined.{eleven-parts}
use Rattle.svg_shapes.proofs.shapes.put_box.Goals as goal

pub returns : goal.returns
unfolding box_text
returns c =
    c.in_ok-write.ensures.bytes
    ∙ ap (λ (t : List ℕ). string_bytes c.args.text.now ++ t)
    (eleven-parts (codes "<rect x=\"") (decimal c.args.x) (codes "\" y=\"") (decimal c.args.y) (codes "\" width=\"")
    (decimal c.args.width) (codes "\" height=\"") (decimal c.args.height)
    (codes "\" fill=\"") c.args.colour.now (codes "\"/>\n"))
