use Rattle.std.proofs.Common.{◌≡◌, length, take}
use Rattle.protocol_rules.specs.Matrix.{column}
use Rattle.summary_matrix.specs.Held.{rows_at}
use Rattle.summary_matrix.proofs.matrix.column.Given as goal

abbrev pub invariant-loop-master : goal.invariant-loop-master
invariant-loop-master l = (length l.numbers ≡ 14)
    × (take l.master l.numbers ≡ column (rows_at l.master l.latest) l.place)
