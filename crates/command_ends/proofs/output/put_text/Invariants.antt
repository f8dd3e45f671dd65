-- The pieces put so far and the rest make up the text, and the output's count of faults hasn't risen. Each turn
-- takes a piece that isn't empty off the rest, which ends the loop.
use Rattle.std.proofs.Common.{◌≡◌, ◌++◌, ℕ, List, length}
use Rattle.outside.specs.Piece.{with_piece}
use Rattle.command_ends.proofs.output.put_text.Given as goal

abbrev pub invariant-loop-rest : goal.invariant-loop-rest
invariant-loop-rest g l = record {
  none : g.O.Sink.faults l.out ≡ g.O.Sink.faults l.initial.out;
  done : List ℕ;
  text : l.text ≡ done ++ l.rest;
  put : g.O.Sink.told l.out ≡ with_piece (g.O.Sink.told l.initial.out) done;
}

abbrev pub decreases-loop-rest : goal.decreases-loop-rest
decreases-loop-rest g l = length l.rest
