use Rattle.std.proofs.Common.{◌≡◌, ◌≤◌, ◌+◌, length}
use Rattle.run_lines.specs.Runs.{pieces, after_heads}
use Rattle.run_lines.proofs.runs.read_after_heads.Given as goal

-- what the rest says is what all said, and no more lines were passed than bytes
abbrev pub invariant-loop-head : goal.invariant-loop-head
invariant-loop-head l =
    (after_heads l.company.cast l.line (pieces l.rest) ≡ after_heads l.company.cast 2 (pieces l.text))
    × (l.line + length l.rest ≤ 2 + length l.text)

abbrev pub decreases-loop-head : goal.decreases-loop-head
decreases-loop-head l = length l.rest
