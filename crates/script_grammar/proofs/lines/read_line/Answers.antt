-- A silent line says nothing, a line that is text says what its grammar makes of it, and any other line is bad.
-- These are the three cases of the definition.
use Rattle.std.proofs.Common.{◌∙◌, sym, subst}
use Rattle.script_grammar.specs.Faults.{Answers}
use Rattle.script_grammar.proofs.LineLaws.{text_line, other_line}
use Rattle.script_grammar.proofs.lines.read_line.Goals as goal

pub returns-in-Ok : goal.returns-in-Ok
returns-in-Ok g c =
    let says = g.G.Grammar.says c.args.grammar.now in
    let read = rw c.in-Ok.ensures.cases.0 at c.read_text.ensures in
    subst (Answers c.if_any.result)
    (sym (text_line says c.args.number c.args.line.now (sym c.is_silent.ensures ∙ c.if-is_silent.false)
    c.in-Ok.ensures.cases.1)) (c.if_any.ensures _ read)

pub returns-in-Err : goal.returns-in-Err
returns-in-Err g c = other_line _ c.args.number c.args.line.now (sym c.is_silent.ensures ∙ c.if-is_silent.false)
    c.in-Err.ensures.cases.0
