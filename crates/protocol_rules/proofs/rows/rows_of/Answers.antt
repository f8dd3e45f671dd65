-- The rows so far are those of the masters below, and after the last master those of the whole group.
use Rattle.std.proofs.Common.{◌≡◌, ◌++◌, ◌∷◌, [], map, sym, ◌∙◌, ap, arith}
use Rattle.quorum_sets.specs.Masters.{numbers_below}
use Rattle.quorum_sets.proofs.Numbered.{map_start, map_more}
use Rattle.protocol_rules.specs.Matrix.{row_of, rows_of_frames}
use Rattle.protocol_rules.proofs.rows.rows_of.Goals as goal

pub loop-master-init : goal.loop-master-init
loop-master-init c = c.new-rows.ensures ∙ sym (map_start (row_of c.args.frames.now))

pub loop-master-preserved : goal.loop-master-preserved
loop-master-preserved c = c.in_ok-push.ensures.ok ∙ ap (λ xs. xs ++ c.in_ok-row_of.field-0 ∷ [])
    c.loop-master.invariant ∙ ap (λ row. map (row_of c.args.frames.now) (numbers_below c.loop-master.master)
    ++ row ∷ []) c.in_ok-row_of.ensures
    ∙ sym (map_more (row_of c.args.frames.now) c.loop-master.master)

pub returns : goal.returns
unfolding rows_of_frames
returns c g same = c.loop-master.invariant ∙ ap (λ n. map (row_of c.args.frames.now) (numbers_below n))
    (let at : c.loop-master.master ≡ c.args.sizes.now.n = omega arith in at ∙ same)
