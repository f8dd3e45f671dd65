-- The fault's words stand behind the file's name.
use Rattle.std.proofs.Common.{◌≡◌, ◌∙◌, ◌++◌, List, ℕ, ap, sym, codes, append_assoc}
use Rattle.command_ends.proofs.report.keep_line.Goals as goal

from_left : (name words : List ℕ) →
    name ++ (codes " " ++ (words ++ codes "\n")) ≡ name ++ codes " " ++ words ++ codes "\n"
from_left name words = sym (append_assoc (name ++ codes " ") words (codes "\n")
    ∙ append_assoc name (codes " ") (words ++ codes "\n"))

pub returns : goal.returns
returns c =
    c.in_ok-line.ensures.ok
    ∙ ap (λ (t : List ℕ). codes "spire: keep " ++ t) (from_left c.args.name.now c.as_str-why.result.now)
    ∙ ap (λ (w : List ℕ). codes "spire: keep " ++ (c.args.name.now ++ codes " " ++ w ++ codes "\n"))
    (c.as_str-why.ensures.value ∙ c.in_ok-why.ensures)
