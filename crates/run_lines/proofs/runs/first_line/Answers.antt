-- Up to the first line feed is the first piece, and the pieces of what stands behind it are the others. Where
-- no line feed is left the text is one piece.
use Rattle.std.proofs.Common.{◌∙◌, ◌∷◌, ◌+◌, ℕ, List, ap, sym, take}
use Rattle.script_grammar.proofs.LineLaws.{rest_whole}
use Rattle.run_lines.specs.Runs.{pieces}
use Rattle.run_lines.proofs.Cutting.{piece_cut, piece_last}
use Rattle.run_lines.proofs.runs.first_line.Goals as goal

pub returns-in-None-clause-pieces : goal.returns-in-None-clause-pieces
returns-in-None-clause-pieces c = piece_last c.args.text.now (sym c.line_feed.ensures.place ∙ c.in-None.is)

pub returns-in-Some-clause-pieces : goal.returns-in-Some-clause-pieces
returns-in-Some-clause-pieces c =
    let text : List ℕ = c.args.text.now in
    piece_cut text c.in-Some.end (sym c.line_feed.ensures.place ∙ c.in-Some.is) c.in-Some.ensures.within
    ∙ ap (λ (rest : List ℕ). take c.in-Some.end text ∷ pieces rest) (sym (rest_whole text (c.in-Some.end + 1)))
