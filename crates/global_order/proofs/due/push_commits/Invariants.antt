-- The commits due for the numbers so far are there.
use Rattle.std.proofs.Common.{◌≡◌, ◌++◌, ◌-◌, ◌≤◌, ℕ, List}
use Rattle.std.specs.List.{flat_map}
use Rattle.message_types.specs.declared.body.Body.{Body}
use Rattle.protocol_rules.specs.declared.facts.OrderFact.{OrderFact}
use Rattle.protocol_rules.specs.Group.{Group}
use Rattle.protocol_rules.specs.Words.{numbers_from}
use Rattle.protocol_rules.specs.Order.{commit_due}
use Rattle.indexmap.specs.IndexMap.{get}
use Rattle.global_order.specs.Index.{same_pair, first_in, prepared_in}
use Rattle.global_order.specs.Saying.{HasSaidCommits}
use Rattle.global_order.proofs.due.push_commits.Given as goal

-- those of the numbers so far are there
abbrev pub invariant-loop-s : goal.invariant-loop-s
invariant-loop-s l = record {
  in_range : l.s - l.low ≤ l.high - l.low;
  added : (g : Group) (facts : List OrderFact) (words : List Body) →
      ((k : ℕ × ℕ) → first_in (get same_pair l.slots k) ≡ prepared_in g facts k) → HasSaidCommits words l.said →
      l.bodies.items ≡ l.initial.bodies.items ++ flat_map (commit_due g facts words l.v)
      (numbers_from l.low (l.s - l.low));
}
