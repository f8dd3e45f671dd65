-- What was taken of the input is what was seen of a line, and no fault came.
use Rattle.std.proofs.Common.{◌≡◌, ℕ, List}
use Rattle.std.specs.Io.KnownBytes.{Consumes}
use Rattle.station_files.specs.Input.{waiting_of, IsRead}
use Rattle.station_files.proofs.read_lines.ReadLinesLines.next_line.Given as goal

abbrev pub invariant-loop-made : goal.invariant-loop-made
invariant-loop-made g l = record {
  faults : l.self.faults ≡ l.fn.self.faults;
  seen : List ℕ;
  read : IsRead l.fn.room seen l.begun.line.items l.begun.is_begun l.begun.is_long;
  taken : Consumes (waiting_of l.fn.self) (waiting_of l.self) seen;
}
