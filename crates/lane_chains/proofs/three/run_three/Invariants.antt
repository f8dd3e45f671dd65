use Rattle.lane_chains.specs.Three.{end_of_three}
use Rattle.lane_chains.specs.Marks.{AreEndedTo}
use Rattle.lane_chains.proofs.three.run_three.Given as goal

abbrev pub invariant-chains : goal.invariant-chains
invariant-chains l = AreEndedTo (end_of_three l.a l.b l.c l.from l.to l.starts) l.n l.done l.ends
