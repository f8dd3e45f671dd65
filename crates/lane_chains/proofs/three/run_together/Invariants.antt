use Rattle.lane_chains.specs.Three.{end_of_three}
use Rattle.lane_chains.specs.Marks.{AreEnded}
use Rattle.lane_chains.proofs.three.run_together.Given as goal

abbrev pub invariant-groups : goal.invariant-groups
invariant-groups l =
    AreEnded (end_of_three l.a l.b l.c l.from l.to l.starts) l.fn.done l.fn.ends →
    AreEnded (end_of_three l.a l.b l.c l.from l.to l.starts) l.done l.ends
