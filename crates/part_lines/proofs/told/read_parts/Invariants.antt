-- The parts so far and those of the rest are together all parts of the text. Each turn takes a line from the
-- rest, so the loop ends and the count of lines never overflows.
use Rattle.std.proofs.Common.{◌≡◌, ◌≤◌, ◌+◌, length}
use Rattle.run_lines.specs.Runs.{pieces}
use Rattle.part_lines.specs.Reading.{part_in, each_line, rising}
use Rattle.part_lines.proofs.Cutting.{behind}
use Rattle.part_lines.proofs.told.read_parts.Given as goal

abbrev pub invariant-loop-bytes : goal.invariant-loop-bytes
invariant-loop-bytes l =
    (behind l.parts (rising l.least l.line (each_line (part_in l.sizes.n l.sizes.f) (pieces l.rest))) ≡ rising 0 2
    (each_line (part_in l.sizes.n l.sizes.f) (pieces l.text)))
    × (l.line + length l.rest ≤ 2 + length l.text)

abbrev pub decreases-loop-bytes : goal.decreases-loop-bytes
decreases-loop-bytes l = length l.rest
