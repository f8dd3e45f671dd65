use Rattle.std.proofs.Common.{length}
use Rattle.printed_history.specs.Reading.{contents_in}
use Rattle.kept_lines.proofs.LinesRead.{IsAmid}
use Rattle.kept_lines.proofs.reading.reopen.Given as goal

-- what the rest tells is what is left of all
abbrev pub invariant-loop-line : goal.invariant-loop-line
invariant-loop-line l = IsAmid (contents_in l.fn.begun) l.fn.begun.only l.actor l.bytes l.rest l.so_far

abbrev pub decreases-loop-line : goal.decreases-loop-line
decreases-loop-line l = length l.rest
