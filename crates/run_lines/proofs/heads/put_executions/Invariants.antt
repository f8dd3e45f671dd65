use Rattle.std.proofs.Common.{◌≡◌, ◌++◌, ◌+◌, drop}
use Rattle.std.specs.Prelude.{string_bytes}
use Rattle.run_lines.specs.Texts.{execution_text, numbered_lines}
use Rattle.run_lines.proofs.heads.put_executions.Given as goal

-- with the lines of the rest all would be there
abbrev pub invariant-loop-place : goal.invariant-loop-place
invariant-loop-place l =
    string_bytes l.text ++ numbered_lines (execution_text l.cast) (l.place + 1) (drop l.place l.executions)
    ≡ string_bytes l.initial.text ++ numbered_lines (execution_text l.cast) 1 l.executions
