use Rattle.std.proofs.Common.{◌≡◌, ◌++◌, ◌+◌, drop}
use Rattle.std.specs.Prelude.{string_bytes}
use Rattle.run_lines.specs.Texts.{numbered_lines}
use Rattle.station_rules.specs.Notes.{write_note, lines_behind}
use Rattle.stations.proofs.notes.put_writes.Given as goal

-- with the lines of the rest all would be there
abbrev pub invariant-loop-place : goal.invariant-loop-place
invariant-loop-place l =
    string_bytes l.text ++ numbered_lines write_note (l.place + 1) (drop l.place l.writes)
    ≡ string_bytes l.fn.text ++ lines_behind write_note l.before l.writes
