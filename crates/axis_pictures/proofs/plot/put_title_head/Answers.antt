-- The macro writes its pieces one by one; joined they are the text that the definition has in one.
use Rattle.std.proofs.Common.{◌++◌, ◌∙◌, List, ℕ, ap, codes, decimal}
use Rattle.std.specs.Prelude.{string_bytes}
use Rattle.axis_pictures.specs.Plots.{title_head}
use Rattle.svg_shapes.proofs.Joined.{three-parts}
use Rattle.axis_pictures.proofs.plot.put_title_head.Goals as goal

pub returns : goal.returns
unfolding title_head
returns c =
    c.in_ok-write.ensures.bytes
    ∙ ap (λ (t : List ℕ). string_bytes c.args.text.now ++ t)
    (three-parts (codes "<text x=\"70\" y=\"20\" fill=\"#202020\">point ") (decimal c.args.number) (codes ": "))
