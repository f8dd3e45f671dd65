-- A line that is text has the words between its blanks; one that isn't is refused, as the definition refuses it.
use Rattle.std.proofs.Common.{Ok, List, ℕ, sym, ap, ◌∙◌}
use Rattle.script_grammar.specs.Lines.{words_of}
use Rattle.part_lines.proofs.Words.{text_line, no_text_line}
use Rattle.part_lines.proofs.lines.words_of.Goals as goal

pub returns-in_ok-parts-in-Ok-clause-words : goal.returns-in_ok-parts-in-Ok-clause-words
returns-in_ok-parts-in-Ok-clause-words c =
    text_line c.args.line.now c.in-Ok.ensures.cases.1
    ∙ ap (λ (words : List (List ℕ)). Ok words) (ap words_of (sym c.in-Ok.ensures.cases.0)
    ∙ sym c.in_ok-parts-in-Ok.ensures)

pub returns-in-Err-clause-fault : goal.returns-in-Err-clause-fault
returns-in-Err-clause-fault c = no_text_line c.args.line.now c.in-Err.ensures.cases.0
