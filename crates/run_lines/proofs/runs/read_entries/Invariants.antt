use Rattle.std.proofs.Common.{◌≡◌, ◌+◌, ◌-◌, length}
use Rattle.run_lines.specs.Runs.{pieces, entries_in}
use Rattle.run_lines.proofs.Cutting.{behind}
use Rattle.run_lines.proofs.runs.read_entries.Given as goal

-- behind the entries so far those of the rest are all
abbrev pub invariant-loop-place : goal.invariant-loop-place
invariant-loop-place l =
    (behind l.entries (entries_in l.company.cast (l.first + l.place) (l.count - l.place) (pieces l.rest)) ≡ entries_in
    l.company.cast l.first l.count (pieces l.text))
    × (length l.entries ≡ l.place)
