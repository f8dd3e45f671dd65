use Rattle.std.proofs.Common.{◌≡◌}
use Rattle.summary_matrix.specs.Held.{frames_at}
use Rattle.summary_matrix.proofs.matrix.Matrix.frames.Given as goal

abbrev pub invariant-loop-master : goal.invariant-loop-master
invariant-loop-master l = l.frames ≡ frames_at l.master l.self-inside.latest
