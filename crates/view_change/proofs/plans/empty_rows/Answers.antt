use Rattle.std.proofs.Common.{◌++◌, ◌∷◌, [], List, ℕ, ap, ◌∙◌}
use Rattle.view_change.proofs.Best.{empty_rows-start, empty_rows-more}
use Rattle.view_change.proofs.plans.empty_rows.Goals as goal

pub loop-master-init : goal.loop-master-init
loop-master-init c = c.new-rows.ensures ∙ empty_rows-start

pub loop-master-preserved : goal.loop-master-preserved
loop-master-preserved c =
    c.in_ok-push.ensures.ok ∙ ap (λ (row : List ℕ). c.loop-master.rows ++ row ∷ []) c.new.ensures
    ∙ empty_rows-more c.loop-master.rows c.loop-master._master c.loop-master.invariant
