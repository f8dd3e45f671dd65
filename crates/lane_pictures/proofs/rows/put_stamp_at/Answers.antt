-- The macro writes its pieces one by one; joined they are the text that the definition has in one.
use Rattle.std.proofs.Common.{◌++◌, ◌∙◌, List, ℕ, ap, codes, decimal}
use Rattle.std.specs.Prelude.{string_bytes}
use Rattle.lane_pictures.specs.Drawing.{stamp_at}
use Rattle.svg_shapes.proofs.Joined.{five-parts}
use Rattle.lane_pictures.proofs.rows.put_stamp_at.Goals as goal

pub returns : goal.returns
unfolding stamp_at
returns c =
    c.in_ok-write.ensures.bytes
    ∙ ap (λ (t : List ℕ). string_bytes c.args.text.now ++ t)
    (five-parts (codes "<text x=\"70\" y=\"") (decimal c.args.y) (codes "\" fill=\"#707070\">from entry ")
    (decimal c.args.stamp) (codes "</text>\n"))
