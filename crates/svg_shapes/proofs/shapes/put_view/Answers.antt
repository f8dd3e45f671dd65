-- The macro writes its pieces one by one; joined they are the text that the definition has in one.
use Rattle.std.proofs.Common.{◌++◌, ◌∙◌, List, ℕ, ap, codes, decimal}
use Rattle.std.specs.Prelude.{string_bytes}
use Rattle.svg_shapes.specs.Shapes.{view_text}
use Rattle.svg_shapes.proofs.Joined.{seven-parts}
use Rattle.svg_shapes.proofs.shapes.put_view.Goals as goal

pub returns : goal.returns
unfolding view_text
returns c =
    c.in_ok-write.ensures.bytes
    ∙ ap (λ (t : List ℕ). string_bytes c.args.text.now ++ t)
    (seven-parts (codes "<text x=\"") (decimal c.args.x) (codes "\" y=\"") (decimal c.args.y)
    (codes "\" fill=\"#707070\">view ") (decimal c.args.view) (codes "</text>\n"))
