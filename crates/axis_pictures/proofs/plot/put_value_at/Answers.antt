-- The macro writes its pieces one by one; joined they are the text that the definition has in one.
use Rattle.std.proofs.Common.{◌++◌, ◌∙◌, List, ℕ, ap, codes, decimal}
use Rattle.std.specs.Prelude.{string_bytes}
use Rattle.axis_pictures.specs.Plots.{value_head}
use Rattle.svg_shapes.proofs.Joined.{three-parts}
use Rattle.axis_pictures.proofs.plot.put_value_at.Goals as goal

pub returns : goal.returns
unfolding value_head
returns c =
    c.in_ok-write.ensures.bytes
    ∙ ap (λ (t : List ℕ). string_bytes c.args.text.now ++ t)
    (three-parts (codes "<text x=\"4\" y=\"") (decimal c.args.y) (codes "\" fill=\"#404040\">"))
