use Rattle.std.proofs.Common.{◌≡◌, ℕ, List, ◌++◌, ◌∷◌, [], sym, ap, ◌∙◌}
use Rattle.quorum_sets.specs.Masters.{numbers_below}
use Rattle.quorum_sets.proofs.Numbered.{below_one_more, below_none_at}
use Rattle.run_scripts.proofs.steps.numbers_below.Goals as goal

pub loop-number-init : goal.loop-number-init
loop-number-init c = c.in_ok-numbers.ensures.items ∙ sym below_none_at

pub loop-number-preserved : goal.loop-number-preserved
loop-number-preserved c =
    c.in_ok-push.ensures.items ∙ ap (λ (ns : List ℕ). ns ++ c.loop-number.number ∷ []) c.loop-number.invariant
    ∙ sym (below_one_more c.loop-number.number)
