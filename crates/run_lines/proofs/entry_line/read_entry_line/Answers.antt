-- A line that is text is parted at its blanks into the words that the definition reads. One that isn't text has
-- the fault of a bad line.
use Rattle.std.proofs.Common.{◌≡◌, ◌∙◌, List, ℕ, ap, sym, subst}
use Rattle.script_grammar.specs.Faults.{Answers}
use Rattle.script_grammar.specs.Lines.{texts, words_of}
use Rattle.run_lines.specs.Reading.{entry_in}
use Rattle.run_lines.proofs.ReadLaws.{entry_text_line, entry_no_text}
use Rattle.run_lines.proofs.entry_line.read_entry_line.Goals as goal

pub returns-in_ok-words-in-Ok : goal.returns-in_ok-words-in-Ok
returns-in_ok-words-in-Ok c =
    let words : texts c.as_slice.result.now ≡ words_of c.args.line.now =
    ap texts c.as_slice.ensures.value ∙ c.in_ok-words-in-Ok.ensures ∙ ap words_of c.in-Ok.ensures.cases.0 in
    subst (Answers c.read_entry.result) (ap (entry_in c.args.company.now.cast) words
    ∙ sym (entry_text_line c.args.company.now.cast c.args.line.now c.in-Ok.ensures.cases.1)) c.read_entry.ensures

pub returns-in-Err : goal.returns-in-Err
returns-in-Err c = entry_no_text c.args.company.now.cast c.args.line.now c.in-Err.ensures.cases.0
