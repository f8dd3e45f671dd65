-- Up to the first line feed is the first line, without a return at its end, and the other lines are those of
-- the text behind it. A last line needs no feed, and an empty text has none.
use Rattle.std.proofs.Common.{◌≡◌, ◌<◌, ◌+◌, ◌∙◌, ℕ, List, ◌∷◌, [], length, drop, ap, sym, arith}
use Rattle.std.specs.Str.Lines.{lines}
use Rattle.std.proofs.lemmas.List.{drop_all}
use Rattle.script_grammar.proofs.LineLaws.{line_last, line_cut, rest_whole, some_bytes}
use Rattle.script_grammar.proofs.lines.first_line.Goals as goal

pub returns-in-None : goal.returns-in-None
returns-in-None c =
    let text : List ℕ = c.args.text.now in
    let some : 0 < length text = some_bytes (length text) c.is_empty.result c.is_empty.ensures c.if-is_empty.false in
    let none : drop (length text) text ≡ [] = drop_all (length text) text (omega arith) in
    line_last text some (sym c.line_feed.ensures.place ∙ c.in-None.is)
    ∙ ap (λ (rest : List ℕ). text ∷ lines rest) (sym (rest_whole text (length text) ∙ none))

pub returns-in-Some : goal.returns-in-Some
returns-in-Some c =
    let text : List ℕ = c.args.text.now in
    line_cut text c.in-Some.end (sym c.line_feed.ensures.place ∙ c.in-Some.is) c.in-Some.ensures.within
    ∙ ap (λ (line : List ℕ). line ∷ lines (drop (c.in-Some.end + 1) text)) (sym c.without_return.ensures)
    ∙ ap (λ (rest : List ℕ). c.without_return.result.now ∷ lines rest) (sym (rest_whole text (c.in-Some.end + 1)))
