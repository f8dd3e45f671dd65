-- For each originator the greatest of the column's numbers that so many reach. One more place is right each turn, and
-- those before stay.
use Rattle.std.proofs.Common.{◌≡◌, ℕ, length, ◌∙◌, ap, arith}
use Rattle.std.proofs.lemmas.List.{length-set}
use Rattle.protocol_rules.specs.Matrix.{column}
use Rattle.protocol_rules.specs.Words.{greatest_reached}
use Rattle.summary_matrix.specs.Held.{rows_at}
use Rattle.summary_matrix.proofs.Loops.{told_more}
use Rattle.summary_matrix.proofs.matrix.reach_of.Goals as goal

pub loop-place-preserved : goal.loop-place-preserved
loop-place-preserved c =
    let many : length c.loop-place.reach.numbers ≡ 14 = c.loop-place.invariant.0 in (
      length-set c.loop-place.reach.numbers c.loop-place.place c.greatest_reached.result ∙ many,
      told_more c.loop-place.reach.numbers c.loop-place.place c.greatest_reached.result
          (λ (j : ℕ). greatest_reached c.args.least (column (rows_at c.args.masters c.args.latest.now) j)) (omega arith)
          c.loop-place.invariant.1
          (c.greatest_reached.ensures ∙ ap (greatest_reached c.args.least) (c.leading.ensures ∙ c.column-numbers.ensures)),
    )
