-- What came so far is answered, and no fault came.
use Rattle.std.proofs.Common.{◌≡◌, ◌≤◌, List, ◌∷◌, length}
use Rattle.station_rules.specs.Answers.{Asked, Start}
use Rattle.stations.specs.declared.living.TheConstants.{MOST_LINE as most_line}
use Rattle.stations.specs.Asking.{AskedOf}
use Rattle.stations.specs.Going.{IsGoing, origin}
use Rattle.stations.proofs.living.live.Given as goal

abbrev pub invariant-loop-turn : goal.invariant-loop-turn
invariant-loop-turn g l = record {
  asked : List Asked;
  going : IsGoing (origin l.fn.station (g.F.KeptFile.held l.fn.file) (g.S.Sink.told l.fn.sink)) (Start ∷ asked)
      l.station l.batch (g.F.KeptFile.held l.file) (g.S.Sink.told l.sink);
  many : l._turn ≤ length asked;
  next : AskedOf most_line (g.L.Lines.waiting l.fn.lines) asked (g.L.Lines.waiting l.lines);
  inputs : g.L.Lines.faults l.lines ≡ g.L.Lines.faults l.fn.lines;
  keeps : g.F.KeptFile.faults l.file ≡ g.F.KeptFile.faults l.fn.file;
  outputs : g.S.Sink.faults l.sink ≡ g.S.Sink.faults l.fn.sink;
}
