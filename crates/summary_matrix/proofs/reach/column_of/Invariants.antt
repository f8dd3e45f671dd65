use Rattle.std.proofs.Common.{◌≡◌, length, take}
use Rattle.protocol_rules.specs.Matrix.{column}
use Rattle.summary_matrix.proofs.reach.column_of.Given as goal

abbrev pub invariant-loop-at : goal.invariant-loop-at
invariant-loop-at l = (length l.numbers ≡ 14) × (take l.at l.numbers ≡ column (take l.at l.rows) l.place)
