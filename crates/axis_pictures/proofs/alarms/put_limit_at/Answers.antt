-- The macro writes its pieces one by one; joined they are the text that the definition has in one.
use Rattle.std.proofs.Common.{◌++◌, ◌∙◌, List, ℕ, ap, codes, decimal}
use Rattle.std.specs.Prelude.{string_bytes}
use Rattle.axis_pictures.specs.Plots.{limit_at}
use Rattle.svg_shapes.proofs.Joined.{three-parts}
use Rattle.axis_pictures.proofs.alarms.put_limit_at.Goals as goal

pub returns : goal.returns
unfolding limit_at
returns c =
    c.in_ok-write.ensures.bytes
    ∙ ap (λ (t : List ℕ). string_bytes c.args.text.now ++ t)
    (three-parts (codes "<text x=\"76\" y=\"") (decimal c.args.y) (codes "\" fill=\"#c00020\">"))
