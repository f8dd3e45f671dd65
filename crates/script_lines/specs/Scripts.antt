-- Scripts: the lines of a file that say something, with their numbers. (This project's own.)
use Rattle.std.specs.Prelude.{ℕ, List, Result}
use Rattle.script_grammar.specs.declared.fault.ScriptRefusal.{ScriptRefusal}
use Rattle.script_grammar.specs.Faults.{Answer, said}
use Rattle.script_grammar.specs.Lines.{file_in}
use Rattle.script_grammar.specs.Names.{Who}
use Rattle.script_lines.specs.declared.script.Line.{Line}
use Rattle.script_lines.specs.declared.step.Step.{Step}
use Rattle.script_lines.specs.Steps.{step_in}

abbrev pub line_of : ℕ → Step → Line
line_of number step = record { number = number; step = step }

-- the line of a number and of these words
unfoldable pub script_line_in : Who → ℕ → List (List ℕ) → Answer Line
script_line_in who number words = said (line_of number) (step_in who words)

-- a script has at most 10,000 lines
unfoldable pub script_in : Who → List ℕ → Result (List Line) ScriptRefusal
script_in who bytes = file_in 10000 (script_line_in who) bytes
