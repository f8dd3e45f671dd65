-- The bodies end with the acknowledgements due of the masters so far, and the lanes of the others are as they were.
use Rattle.std.proofs.Common.{◌≡◌, ℕ, ◌≤◌, ◌++◌, List}
use Rattle.std.specs.List.{flat_map}
use Rattle.message_types.specs.declared.signed.Signed.{Signed}
use Rattle.message_types.specs.declared.body.Body.{Body}
use Rattle.quorum_sets.specs.Masters.{numbers_below}
use Rattle.protocol_rules.specs.Group.{group_of}
use Rattle.preorder.specs.Index.{HasFirsts}
use Rattle.preorder.specs.Lanes.{AreLanes, HasLanes, lane_at, lane_acks_due}
use Rattle.preorder.proofs.lanes.push_acks_in_turn.Given as goal

-- those of the masters so far are there
abbrev pub invariant-loop-master : goal.invariant-loop-master
invariant-loop-master l = record {
  added : (known : List (Signed Body)) (said : List Body) →
      HasFirsts (group_of l.sizes l.clients) known said l.firsts.entries →
      HasLanes (group_of l.sizes l.clients) known said l.initial.lanes →
      l.bodies.items ≡ l.initial.bodies.items
      ++ flat_map (λ j. lane_acks_due (group_of l.sizes l.clients) known said j) (numbers_below l.master);
  seen : (known : List (Signed Body)) (said : List Body) →
      HasFirsts (group_of l.sizes l.clients) known said l.firsts.entries →
      HasLanes (group_of l.sizes l.clients) known said l.initial.lanes →
      AreLanes (group_of l.sizes l.clients) known l.lanes;
  rest : (j : ℕ) → l.master ≤ j → lane_at l.lanes j ≡ lane_at l.initial.lanes j;
}
