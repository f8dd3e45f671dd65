-- Each turn adds the row of the next master's latest summary, an empty one where it has none. So the rows are
-- those of all masters in order.
use Rattle.std.proofs.Common.{◌≡◌, ◌≤◌, ◌++◌, ◌∷◌, [], None, get_or, sym, ◌∙◌, ap, arith}
use Rattle.std.proofs.lemmas.List.{get_or_default}
use Rattle.summary_matrix.specs.Held.{Summaries, row_of, rows_at}
use Rattle.summary_matrix.proofs.Latest.{rows-known}
use Rattle.quorum_sets.proofs.Numbered.{masters_few, map_start, map_more}
use Rattle.summary_matrix.proofs.matrix.Matrix.rows.Goals as goal

pub loop-master-init : goal.loop-master-init
loop-master-init c = c.new-rows.ensures ∙ sym (map_start (λ j. row_of (get_or c.self.inside.latest j None)))

pub loop-master-preserved : goal.loop-master-preserved
loop-master-preserved c =
    let few : c.self.inside.sizes.n ≤ 14 = masters_few c.self.inside.sizes in
    let there : get_or c.self.inside.latest c.loop-master.master c.index-self-master.result ≡ get_or
    c.self.inside.latest c.loop-master.master None =
    get_or_default c.self.inside.latest c.loop-master.master c.index-self-master.result None (omega arith) in
    c.in_ok-push.ensures.ok ∙ ap (λ rows. rows ++ c.in_ok-copied_row.field-0 ∷ []) c.loop-master.invariant
    ∙ ap (λ row. rows_at c.loop-master.master c.self.inside.latest ++ row ∷ [])
    (c.in_ok-copied_row.ensures ∙ ap row_of there)
    ∙ sym (map_more (λ j. row_of (get_or c.self.inside.latest j None)) c.loop-master.master)

pub returns : goal.returns
returns c g known is =
    let ended : c.loop-master.master ≡ c.self.inside.sizes.n = omega arith in
    c.loop-master.invariant ∙ ap (λ n. rows_at n c.self.inside.latest) ended
    ∙ ap (λ (m : Summaries). rows_at m.group.n m.latest) c.self.view_is ∙ rows-known g c.args.self.now known is
