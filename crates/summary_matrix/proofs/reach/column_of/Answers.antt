-- Each turn sets the next row's number at the place, 0 where the row is too short. So the numbers are the
-- column of the rows gone over.
use Rattle.std.proofs.Common.{◌≡◌, ◌≤◌, ◌+◌, ◌++◌, ◌∷◌, [], ℕ, length, get_or, take, sym, ◌∙◌, ap, arith}
use Rattle.std.proofs.lemmas.List.{map-append, take_more, take_more_set, length-set}
use Rattle.protocol_rules.specs.Matrix.{column}
use Rattle.summary_matrix.proofs.reach.column_of.Goals as goal

pub loop-at-preserved : goal.loop-at-preserved
loop-at-preserved c =
    let at : ℕ = c.loop-at.at in
    let many : length c.loop-at.numbers ≡ 14 = c.loop-at.invariant.0 in
    let few : length c.args.rows.now ≤ 14 = c.requires in
    let more : take (at + 1) c.args.rows.now ≡ take at c.args.rows.now ++ c.index-rows-at.result ∷ [] =
    take_more c.args.rows.now at c.index-rows-at.result c.loop-at-test.true
    ∙ ap (λ row. take at c.args.rows.now ++ row ∷ []) (sym c.index-rows-at.is) in (
      length-set c.loop-at.numbers at c.number_at.result ∙ many,
      take_more_set c.loop-at.numbers at c.number_at.result (omega arith)
          ∙ ap (λ xs. xs ++ c.number_at.result ∷ []) c.loop-at.invariant.1
          ∙ ap (λ x. column (take at c.args.rows.now) c.args.place ++ x ∷ []) c.number_at.ensures
          ∙ sym (map-append (λ r. get_or r c.args.place 0) (take at c.args.rows.now) (c.index-rows-at.result ∷ []))
          ∙ ap (λ rows. column rows c.args.place) (sym more),
    )
