use Rattle.std.proofs.Common.{◌≡◌, ◌<◌, ℕ, length, get_or}
use Rattle.protocol_rules.specs.Matrix.{column}
use Rattle.protocol_rules.specs.Words.{greatest_reached}
use Rattle.summary_matrix.specs.Held.{rows_at}
use Rattle.summary_matrix.proofs.matrix.reach_of.Given as goal

abbrev pub invariant-loop-place : goal.invariant-loop-place
invariant-loop-place l = (length l.reach.numbers ≡ 14)
    × ((j : ℕ) → j < l.place → get_or l.reach.numbers j 0 ≡ greatest_reached l.least (column (rows_at l.masters l.latest) j))
