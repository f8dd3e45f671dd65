-- Each turn sets the next master's number of the latest summaries, 0 where it has none. So the first places are the
-- column of the rows.
use Rattle.std.proofs.Common.{◌≡◌, ◌≤◌, ◌++◌, ◌∷◌, [], ℕ, None, List, length, get_or, take, sym, ◌∙◌, ap, refl, arith}
use Rattle.std.proofs.lemmas.List.{map-append, take_more_set, get_or_default, length-set}
use Rattle.protocol_rules.specs.Matrix.{column}
use Rattle.summary_matrix.specs.Held.{row_of, rows_at}
use Rattle.quorum_sets.proofs.Numbered.{map_start, map_more}
use Rattle.summary_matrix.proofs.matrix.column.Goals as goal

pub loop-master-init : goal.loop-master-init
loop-master-init c = (
  refl,
  sym (ap (λ rows. column rows c.args.place) (map_start (λ j. row_of (get_or c.args.latest.now j None)))),
)

pub loop-master-preserved : goal.loop-master-preserved
loop-master-preserved c =
    let few : c.args.masters ≤ 14 = c.requires in
    let there : get_or c.args.latest.now c.loop-master.master c.index-latest-at.result ≡ get_or c.args.latest.now
    c.loop-master.master None =
    get_or_default c.args.latest.now c.loop-master.master c.index-latest-at.result None (omega arith) in
    let at : ℕ = c.loop-master.master in
    let row : ℕ → List ℕ = λ j. row_of (get_or c.args.latest.now j None) in
    let many : length c.loop-master.numbers ≡ 14 = c.loop-master.invariant.0 in (
      length-set c.loop-master.numbers at c.number_told.result ∙ many,
      take_more_set c.loop-master.numbers at c.number_told.result (omega arith)
          ∙ ap (λ xs. xs ++ c.number_told.result ∷ []) c.loop-master.invariant.1
          ∙ ap (λ x. column (rows_at at c.args.latest.now) c.args.place ++ x ∷ [])
          (c.number_told.ensures ∙ ap (λ held. get_or (row_of held) c.args.place 0) there)
          ∙ sym (map-append (λ r. get_or r c.args.place 0) (rows_at at c.args.latest.now) (row at ∷ []))
          ∙ ap (λ rows. column rows c.args.place) (sym (map_more row at)),
    )

pub returns : goal.returns
returns c =
    let ended : c.loop-master.master ≡ c.args.masters = omega arith in
    ap (λ n. take n c.loop-master.numbers) (sym ended) ∙ c.loop-master.invariant.1
    ∙ ap (λ n. column (rows_at n c.args.latest.now) c.args.place) ended
