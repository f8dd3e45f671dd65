use Rattle.std.proofs.Common.{◌≡◌, ◌<◌, ℕ, length, get_or}
use Rattle.protocol_rules.specs.Group.{group_of}
use Rattle.protocol_rules.specs.Matrix.{eligible}
use Rattle.summary_matrix.proofs.reach.eligible.Given as goal

abbrev pub invariant-loop-place : goal.invariant-loop-place
invariant-loop-place l = (length l.reach.numbers ≡ 14)
    × ((clients j : ℕ) → j < l.place → get_or l.reach.numbers j 0 ≡ eligible (group_of l.sizes clients) l.rows j)
