-- Behind what the lines so far say stands what the definition reads of the rest, so the first fault is the
-- file's. A line past the most that are allowed is a bad one.
use Rattle.std.proofs.Common.{◌≡◌, ◌≤◌, ◌<◌, ◌+◌, ◌∙◌, ℕ, Err, sym, ap, arith}
use Rattle.std.specs.Str.Lines.{lines}
use Rattle.script_grammar.specs.declared.fault.LineRefusal.TheVariants as fault
use Rattle.script_grammar.specs.declared.fault.ScriptRefusal.TheVariants as refusal
use Rattle.script_grammar.specs.Lines.{line_in, limited}
use Rattle.script_grammar.proofs.LineLaws.{file_more, file_fault, fault_of_file, allowed_line, extra_line, file_is}
use Rattle.script_grammar.proofs.lines.read_lines.Goals as goal

pub returns-in-Err : goal.returns-in-Err
returns-in-Err g c =
    let says = g.G.Grammar.says c.args.grammar.now in
    let few : c.loop-number.number ≤ c.args.most = omega arith in
    rw (c.at.ensures, file_is c.args.most says c.args.bytes.now)
    (fault_of_file c.in-Err.fault (line_in says (record { number = c.loop-number.number; line = c.in-Some.line.now }))
    c.loop-number.number _ c.in-Err.ensures
    (λ is. file_fault (limited c.args.most says) c.loop-number.all c.in-Err.fault c.loop-number.number
    c.in-Some.line.now (lines c.loop-number.rest.now)
    (lines c.in-Some.after.now) _ c.loop-number.invariant c.in-Some.ensures
    (allowed_line c.args.most says c.loop-number.number c.in-Some.line.now few ∙ is)))

pub loop-number-preserved : goal.loop-number-preserved
loop-number-preserved g c =
    let says = g.G.Grammar.says c.args.grammar.now in
    let few : c.loop-number.number ≤ c.args.most = omega arith in
    rw c.in_ok-push_said-in-Ok.ensures
    (file_more (limited c.args.most says) c.loop-number.all c.in-Ok.said c.loop-number.number c.in-Some.line.now
    (lines c.loop-number.rest.now)
    (lines c.in-Some.after.now) _ c.loop-number.invariant c.in-Some.ensures
    (allowed_line c.args.most says c.loop-number.number c.in-Some.line.now few ∙ c.in-Ok.ensures))

pub returns-in-Some-first_line : goal.returns-in-Some-first_line
returns-in-Some-first_line g c =
    let says = g.G.Grammar.says c.args.grammar.now in
    let last : c.loop-number.number ≡ c.args.most + 1 = omega arith in
    file_is c.args.most says c.args.bytes.now
    ∙ (file_fault (limited c.args.most says) c.loop-number.all fault.BadLine c.loop-number.number
    c.in-Some-first_line.field-0.0.now
    (lines c.loop-number.rest.now) (lines c.in-Some-first_line.field-0.1.now) _ c.loop-number.invariant
    c.in-Some-first_line.ensures
    (extra_line c.args.most says c.loop-number.number c.in-Some-first_line.field-0.0.now (omega arith))
    ∙ ap (λ (n : ℕ). Err (refusal.BadLine n)) last)
