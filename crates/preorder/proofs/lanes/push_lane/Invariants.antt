-- The bodies end with the acknowledgements due of the numbers that the lane passed so far.
use Rattle.std.proofs.Common.{◌≡◌, ◌+◌, ◌-◌, ◌≤◌, ◌++◌, List}
use Rattle.std.specs.List.{flat_map}
use Rattle.message_types.specs.declared.signed.Signed.{Signed}
use Rattle.message_types.specs.declared.body.Body.{Body}
use Rattle.protocol_rules.specs.Group.{group_of}
use Rattle.protocol_rules.specs.Words.{numbers_from}
use Rattle.preorder.specs.Index.{HasFirsts}
use Rattle.preorder.specs.Lanes.{IsLane, ack_in_turn_due}
use Rattle.preorder.proofs.lanes.push_lane.Given as goal

-- those of the numbers passed are there, and the lane holds them
abbrev pub invariant-loop-lane : goal.invariant-loop-lane
invariant-loop-lane l = record {
  grows : l.initial.lane.seen ≤ l.lane.seen;
  added : (known : List (Signed Body)) (said : List Body) →
      HasFirsts (group_of l.sizes l.clients) known said l.firsts.entries →
      IsLane (group_of l.sizes l.clients) known l.master l.initial.lane →
      l.bodies.items ≡ l.initial.bodies.items
      ++ flat_map (λ k. ack_in_turn_due (group_of l.sizes l.clients) known said l.master k)
      (numbers_from (l.initial.lane.seen + 1) (l.lane.seen - l.initial.lane.seen));
  seen : (known : List (Signed Body)) (said : List Body) →
      HasFirsts (group_of l.sizes l.clients) known said l.firsts.entries →
      IsLane (group_of l.sizes l.clients) known l.master l.initial.lane →
      IsLane (group_of l.sizes l.clients) known l.master l.lane;
}

abbrev pub decreases-loop-lane : goal.decreases-loop-lane
decreases-loop-lane l = 4096 - l.lane.seen
