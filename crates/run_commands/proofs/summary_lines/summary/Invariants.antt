use Rattle.std.proofs.Common.{◌≡◌, ◌++◌, drop}
use Rattle.std.specs.List.{flat_map}
use Rattle.run_commands.specs.Summary.{summary_line}
use Rattle.run_commands.proofs.MadePieces.{shown}
use Rattle.run_commands.proofs.summary_lines.summary.Given as goal

-- with what the lines left make, all is made
abbrev pub invariant-loop-line : goal.invariant-loop-line
invariant-loop-line l =
    l.made.items ++ flat_map summary_line (shown (drop l.line-index l.line-items)) ≡ flat_map summary_line
    (shown l.line-items)
