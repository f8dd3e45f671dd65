-- The bodies end with the acknowledgements due of the numbers of the range so far.
use Rattle.std.proofs.Common.{◌≡◌, ◌++◌, ◌-◌, ◌≤◌, List}
use Rattle.std.specs.List.{flat_map}
use Rattle.message_types.specs.declared.signed.Signed.{Signed}
use Rattle.message_types.specs.declared.body.Body.{Body}
use Rattle.protocol_rules.specs.Group.{Group}
use Rattle.protocol_rules.specs.Words.{numbers_from}
use Rattle.protocol_rules.specs.Preorder.{ack_due}
use Rattle.preorder.specs.Index.{HasFirsts}
use Rattle.preorder.proofs.acks.push_acks_of.Given as goal

-- those of the numbers so far are there
abbrev pub invariant-loop-number : goal.invariant-loop-number
invariant-loop-number l = record {
  in_range : l.number - l.low ≤ l.high - l.low;
  added : (g : Group) (known : List (Signed Body)) (said : List Body) → HasFirsts g known said l.firsts.entries →
      l.bodies.items ≡ l.initial.bodies.items ++ flat_map (ack_due known said l.master)
      (numbers_from l.low (l.number - l.low));
}
