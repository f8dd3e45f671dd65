use Rattle.std.proofs.Common.{◌≡◌, ◌≤◌, max}
use Rattle.global_order.specs.OrderState.{Where}
use Rattle.reconcile.proofs.Gathered.{listed}
use Rattle.master_answers.proofs.Lacked.{unless_ordered}
use Rattle.master_answers.proofs.lacking_words.lacking_numbers.Given as goal

-- those after the ones ordered without a gap, up to the one last looked at
abbrev pub invariant-loop-before : goal.invariant-loop-before
invariant-loop-before l =
    (Where l.knowledge.order (λ g facts said. l.numbers.items ≡ listed (unless_ordered g facts) l.gapless l.before))
    × (l.before ≤ max l.gapless l.limit)
