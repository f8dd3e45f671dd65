-- For each originator the q-th greatest number of its column is how far q rows reach. One more place is right
-- each turn, and those before stay.
use Rattle.std.proofs.Common.{◌≡◌, length, take, sym, ◌∙◌, ap, arith}
use Rattle.std.proofs.lemmas.List.{length-set}
use Rattle.protocol_rules.specs.Group.{group_of}
use Rattle.protocol_rules.specs.Matrix.{column, eligible}
use Rattle.summary_matrix.proofs.Greatest.{reached, eligible-is}
use Rattle.summary_matrix.proofs.Loops.{told_more}
use Rattle.summary_matrix.proofs.reach.eligible.Goals as goal

pub loop-place-preserved : goal.loop-place-preserved
loop-place-preserved c =
    let many : length c.loop-place.reach.numbers ≡ 14 = c.loop-place.invariant.0 in
    let rows : c.as_slice.result.now ≡ c.args.rows.now = c.as_slice.ensures in
    let len : c.len.result ≡ length c.as_slice.result.now = c.len.ensures ∙ ap length (sym rows) in
    let told : c.greatest_reached.result ≡ reached c.args.sizes.now.q (column c.args.rows.now c.loop-place.place)
    (column c.args.rows.now c.loop-place.place) =
    c.greatest_reached.ensures ∙ ap (λ xs. reached c.args.sizes.now.q xs xs)
    (c.leading.ensures ∙ ap (λ k. take k c.column_of-numbers.result) len ∙ c.column_of-numbers.ensures
    ∙ ap (λ rows. column rows c.loop-place.place) rows) in (
      length-set c.loop-place.reach.numbers c.loop-place.place c.greatest_reached.result ∙ many,
      λ clients. told_more c.loop-place.reach.numbers c.loop-place.place c.greatest_reached.result
          (eligible (group_of c.args.sizes.now clients) c.args.rows.now) (omega arith)
          (c.loop-place.invariant.1 clients)
          (told ∙ eligible-is (group_of c.args.sizes.now clients) c.args.rows.now c.loop-place.place),
    )
