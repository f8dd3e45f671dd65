use Rattle.std.proofs.Common.{◌≡◌}
use Rattle.summary_matrix.specs.Held.{rows_at}
use Rattle.summary_matrix.proofs.matrix.Matrix.rows.Given as goal

abbrev pub invariant-loop-master : goal.invariant-loop-master
invariant-loop-master l = l.rows ≡ rows_at l.master l.self-inside.latest
