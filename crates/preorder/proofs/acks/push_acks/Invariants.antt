-- The bodies end with the acknowledgements due of all numbers of the masters so far.
use Rattle.std.proofs.Common.{◌≡◌, ◌++◌, List}
use Rattle.std.specs.List.{flat_map}
use Rattle.message_types.specs.declared.signed.Signed.{Signed}
use Rattle.message_types.specs.declared.body.Body.{Body}
use Rattle.quorum_sets.specs.Masters.{numbers_below}
use Rattle.protocol_rules.specs.Group.{Group, most_number}
use Rattle.protocol_rules.specs.Words.{numbers_from}
use Rattle.protocol_rules.specs.Preorder.{ack_due}
use Rattle.preorder.specs.Index.{HasFirsts, HasPending}
use Rattle.preorder.proofs.acks.push_acks.Given as goal

-- those of the masters so far are there
abbrev pub invariant-loop-master : goal.invariant-loop-master
invariant-loop-master l = (g : Group) (known : List (Signed Body)) (said : List Body) →
    HasFirsts g known said l.firsts.entries →
    HasPending known said l.pending.low l.pending.high →
    l.bodies.items ≡ l.initial.bodies.items
    ++ flat_map (λ j. flat_map (λ k. ack_due known said j k) (numbers_from 1 most_number)) (numbers_below l.master)
