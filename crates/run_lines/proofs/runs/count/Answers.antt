-- Digits that are text are read as a number below 2^32, by the definition; bytes that aren't are a bad line in both.
use Rattle.std.proofs.Common.{◌∙◌, ap, sym, subst}
use Rattle.script_grammar.specs.Faults.{Answers}
use Rattle.script_grammar.specs.Numbers.{narrow_in}
use Rattle.run_lines.proofs.ReadLaws.{count_text_line, count_no_text}
use Rattle.run_lines.proofs.runs.count.Goals as goal

pub returns-in-Ok : goal.returns-in-Ok
returns-in-Ok c =
    subst (Answers c.narrow.result) (ap narrow_in c.in-Ok.ensures.cases.0
    ∙ sym (count_text_line c.args.digits.now c.in-Ok.ensures.cases.1)) c.narrow.ensures

pub returns-in-Err : goal.returns-in-Err
returns-in-Err c = count_no_text c.args.digits.now c.in-Err.ensures.cases.0
