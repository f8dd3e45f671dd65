-- What is left has the same whole lines as the text.
use Rattle.std.proofs.Common.{◌≡◌, ◌≤◌, length, take}
use Rattle.station_files.specs.WholeLines.{whole_lines}
use Rattle.station_files.proofs.whole_lines.whole_length.Given as goal

abbrev pub invariant-loop-whole : goal.invariant-loop-whole
invariant-loop-whole l = record {
  within : l.whole ≤ length l.text;
  same : whole_lines (take l.whole l.text) ≡ whole_lines l.text;
}

abbrev pub decreases-loop-whole : goal.decreases-loop-whole
decreases-loop-whole l = l.whole
