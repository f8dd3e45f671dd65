-- How far an execution is behind what is ordered.
use Rattle.std.specs.Prelude.{◌≡◌, ℕ, ◌+◌, ◌≤◌, true, List, ◌++◌, Option, Some, take}
use Rattle.message_types.specs.declared.updates.Update.{Update}
use Rattle.message_types.specs.declared.body.Body.{Body}
use Rattle.protocol_rules.specs.declared.facts.OrderFact.{OrderFact}
use Rattle.protocol_rules.specs.Group.{Group}
use Rattle.protocol_rules.specs.Places.{are_rows}
use Rattle.protocol_rules.specs.Order.{ordered, ordered_run, gapless}
use Rattle.global_order.specs.OrderState.{OrderState, IsOrderOf}
use Rattle.protocol_rules.specs.Execution.{Request}
use Rattle.execution.specs.Ran.{Ran, IsRunOf}

-- The execution took no more numbers than are ordered without a gap by the facts that the order was handed, and all
-- that is ordered are rows of its group.
pub record IsBehind (run : Ran) (order : OrderState) : Type 0 where
  pub facts : List OrderFact
  pub said : List Body
  pub is : IsOrderOf run.group order facts said
  pub numbers : run.numbers ≤ gapless run.group facts
  pub rows : (s : ℕ) (rows : List (List ℕ)) → ordered run.group facts s ≡ Some rows → are_rows run.group rows ≡ true

-- On its way from the state before: it took the numbers below s.
pub record HasTaken (start now : Ran) (order : OrderState) (s : ℕ) : Type 0 where
  pub group : now.group ≡ start.group
  pub next : s ≡ now.numbers + 1
  pub run : (g : Group) (certified : Request → Option Update) (facts : List OrderFact) (said : List Body)
      (before after : List (List (List ℕ))) → IsOrderOf g order facts said
      → ordered_run g facts ≡ before ++ after → IsRunOf g start certified before →
      IsRunOf g now certified (take now.numbers (ordered_run g facts))
