-- The numbers of the masters so far are told.
use Rattle.std.proofs.Common.{◌≡◌, ◌<◌, ℕ, List, length, get_or}
use Rattle.message_types.specs.declared.signed.Signed.{Signed}
use Rattle.message_types.specs.declared.body.Body.{Body}
use Rattle.protocol_rules.specs.Group.{Group}
use Rattle.protocol_rules.specs.Preorder.{vector}
use Rattle.preorder.specs.PreorderState.{IsPreorderOf}
use Rattle.master_answers.proofs.vector.vector_of.Given as goal

abbrev pub invariant-loop-master : goal.invariant-loop-master
invariant-loop-master l = (length l.reach.numbers ≡ 14)
    × ((g : Group) (me : ℕ) (taken known : List (Signed Body)) (said : List Body) →
    IsPreorderOf g me l.preorder taken known said →
    (j : ℕ) → j < l.master → get_or l.reach.numbers j 0 ≡ vector g known j)
