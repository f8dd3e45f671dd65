use Rattle.std.proofs.Common.{◌≡◌}
use Rattle.std.specs.Str.Lines.{lines}
use Rattle.script_grammar.specs.Lines.{all_in, limited, numbered, numbered_from}
use Rattle.script_grammar.proofs.LineLaws.{behind}
use Rattle.script_grammar.proofs.lines.read_lines.Given as goal

abbrev pub invariant-loop-number : goal.invariant-loop-number
invariant-loop-number g l =
    behind l.all (all_in (limited l.most (g.G.Grammar.says l.grammar)) (numbered_from l.number (lines l.rest)))
    ≡ all_in (limited l.most (g.G.Grammar.says l.grammar)) (numbered l.bytes)
