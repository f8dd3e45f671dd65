use Rattle.std.proofs.Common.{◌≡◌, ◌++◌, length}
use Rattle.scenario_file.specs.Reading.{contents}
use Rattle.printed_history.proofs.Lines.{IsAmid}
use Rattle.printed_history.proofs.histories.replay_of.Given as goal

-- the lines that are left tell the rest
abbrev pub invariant-loop-line : goal.invariant-loop-line
invariant-loop-line l = record {
  whole : l.yielded ++ l.line-iterator.rest.items ≡ l.fn.lines;
  amid : IsAmid (contents l.scenario) l.fn.lines l.line-iterator.rest.items (length l.yielded) l.so_far;
}
