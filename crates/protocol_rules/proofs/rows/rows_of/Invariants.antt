use Rattle.std.proofs.Common.{◌≡◌, map}
use Rattle.quorum_sets.specs.Masters.{numbers_below}
use Rattle.protocol_rules.specs.Matrix.{row_of}
use Rattle.protocol_rules.proofs.rows.rows_of.Given as goal

abbrev pub invariant-loop-master : goal.invariant-loop-master
invariant-loop-master l = l.rows ≡ map (row_of l.frames) (numbers_below l.master)
