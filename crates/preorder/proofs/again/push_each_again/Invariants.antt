-- The bodies end with the acknowledgements of the masters so far.
use Rattle.std.proofs.Common.{◌≡◌, ◌+◌, ◌++◌, List}
use Rattle.std.specs.List.{find, flat_map}
use Rattle.std.specs.Option.{option_to_list}
use Rattle.message_types.specs.declared.signed.Signed.{Signed}
use Rattle.message_types.specs.declared.body.Body.{Body}
use Rattle.quorum_sets.specs.Masters.{numbers_below}
use Rattle.protocol_rules.specs.Group.{Group}
use Rattle.protocol_rules.specs.Preorder.{acks, vector}
use Rattle.preorder.specs.Again.{AcknowledgesFirsts}
use Rattle.preorder.specs.Index.{HasFirsts, HasReach}
use Rattle.preorder.proofs.again.push_each_again.Given as goal

-- those of the masters so far are there
abbrev pub invariant-loop-master : goal.invariant-loop-master
invariant-loop-master l = (g : Group) (known : List (Signed Body)) (said : List Body) →
    HasFirsts g known said l.firsts.entries → AcknowledgesFirsts known said → HasReach g known l.reach →
    l.bodies.items ≡ l.initial.bodies.items
    ++ flat_map (λ j. option_to_list (find (acks j (vector g known j + 1)) said)) (numbers_below l.master)
