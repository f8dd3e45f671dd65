-- The macro writes its pieces one by one; joined they are the text that the definition has in one.
use Rattle.std.proofs.Common.{◌++◌, ◌∙◌, List, ℕ, ap, codes, decimal}
use Rattle.std.specs.Prelude.{string_bytes}
use Rattle.svg_shapes.specs.Shapes.{size_text}
use Rattle.svg_shapes.proofs.Joined.{nine-parts}
use Rattle.svg_shapes.proofs.shapes.put_size.Goals as goal

pub returns : goal.returns
unfolding size_text
returns c =
    c.in_ok-write.ensures.bytes
    ∙ ap (λ (t : List ℕ). string_bytes c.args.text.now ++ t)
    (nine-parts (codes "<svg xmlns=\"http://www.w3.org/2000/svg\" width=\"") (decimal c.args.width)
    (codes "\" height=\"") (decimal c.args.height) (codes "\" viewBox=\"0 0 ") (decimal c.args.width) (codes " ")
    (decimal c.args.height) (codes "\" "))
