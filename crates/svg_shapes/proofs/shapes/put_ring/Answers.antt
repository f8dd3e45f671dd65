-- The macro writes its pieces one by one; joined they are the text that the definition has in one.
use Rattle.std.proofs.Common.{◌++◌, ◌∙◌, List, ℕ, ap, codes, decimal}
use Rattle.std.specs.Prelude.{string_bytes}
use Rattle.svg_shapes.specs.Shapes.{ring_text}
use Rattle.svg_shapes.proofs.Joined.{nine-parts}
use Rattle.svg_shapes.proofs.shapes.put_ring.Goals as goal

pub returns : goal.returns
unfolding ring_text
returns c =
    c.in_ok-write.ensures.bytes
    ∙ ap (λ (t : List ℕ). string_bytes c.args.text.now ++ t)
    (nine-parts (codes "<circle cx=\"") (decimal c.args.x) (codes "\" cy=\"") (decimal c.args.y) (codes "\" r=\"")
    (decimal c.args.radius) (codes "\" fill=\"#ffffff\" stroke=\"") c.args.colour.now
    (codes "\" stroke-width=\"2\"/>\n"))
