-- The marks due for the numbers so far are there.
use Rattle.std.proofs.Common.{◌≡◌, ◌++◌, ◌+◌, ◌-◌, ◌≤◌, List}
use Rattle.std.specs.List.{flat_map}
use Rattle.message_types.specs.declared.body.Body.{Body}
use Rattle.protocol_rules.specs.Words.{numbers_from}
use Rattle.protocol_rules.specs.Order.{mark_due}
use Rattle.global_order.specs.Saying.{HasMarked}
use Rattle.global_order.proofs.due.push_marks.Given as goal

-- those of the numbers so far are there
abbrev pub invariant-loop-s : goal.invariant-loop-s
invariant-loop-s l = record {
  in_range : l.s - (l.marked + 1) ≤ (l.reach + 1) - (l.marked + 1);
  added : (words : List Body) → HasMarked words l.marked → l.bodies.items ≡ l.initial.bodies.items
      ++ flat_map (mark_due words) (numbers_from (l.marked + 1) (l.s - (l.marked + 1)));
}
