-- The piece is what was written so far followed by the rest. Each turn takes at least a byte of the rest, so
-- the loop ends.
use Rattle.std.proofs.Common.{◌≡◌, ◌++◌, ℕ, List, length}
use Rattle.std.specs.Io.KnownBytes.{Appends}
use Rattle.outside.proofs.real.write_whole.Given as goal

abbrev pub invariant-loop-rest : goal.invariant-loop-rest
invariant-loop-rest g l = record {
  done : List ℕ;
  whole : l.piece ≡ done ++ l.rest;
  written : Appends (g.W.Write.contents l.initial.writer) (g.W.Write.contents l.writer) done;
}

abbrev pub decreases-loop-rest : goal.decreases-loop-rest
decreases-loop-rest g l = length l.rest
