-- The macro writes its pieces one by one; joined they are the text that the definition has in one.
use Rattle.std.proofs.Common.{◌++◌, ◌∙◌, List, ℕ, ap, codes, decimal}
use Rattle.std.specs.Prelude.{string_bytes}
use Rattle.svg_shapes.specs.Shapes.{dot_text}
use Rattle.svg_shapes.proofs.Joined.{nine-parts}
use Rattle.svg_shapes.proofs.shapes.put_dot.Goals as goal

pub returns : goal.returns
unfolding dot_text
returns c =
    c.in_ok-write.ensures.bytes
    ∙ ap (λ (t : List ℕ). string_bytes c.args.text.now ++ t)
    (nine-parts (codes "<circle cx=\"") (decimal c.args.x) (codes "\" cy=\"") (decimal c.args.y) (codes "\" r=\"")
    (decimal c.args.radius) (codes "\" fill=\"") c.args.colour.now
    (codes "\"/>\n"))
