-- What a leader counts as offered in a view, and the number that it offers next.
use Rattle.std.specs.Prelude.{ℕ, ◌+◌, ◌≤◌, Bool, false, ◌&&◌, List, Option, Some, None, IsSome, IsTrue, length, max, nat_le}
use Rattle.std.specs.Prelude.{if◌then◌else◌}
use Rattle.std.specs.List.{list_all, filter_map}
use Rattle.std.specs.Option.{option_and_then}
use Rattle.message_types.specs.declared.views.Plan.{Plan}
use Rattle.message_types.specs.declared.body.Body.{Body}
use Rattle.quorum_sets.specs.declared.limits.TheConstants.{MOST_MASTERS}
use Rattle.protocol_rules.specs.declared.facts.OrderFact.{OrderFact}
use Rattle.protocol_rules.specs.Words.{numbers_from}
use Rattle.protocol_rules.specs.Group.{Group, most_number, window}
use Rattle.protocol_rules.specs.Facts.{rows_known}
use Rattle.protocol_rules.specs.Matrix.{reach}
use Rattle.protocol_rules.specs.Order.{gapless, plan_known}
use Rattle.protocol_rules.specs.Master.{counted_rows}
use Rattle.summary_matrix.specs.Held.{TellsEach}
use Rattle.global_order.specs.OrderState.{OrderState, IsOrderOf}

-- there are no more rows than a group can have masters
abbrev pub are_few : List (List ℕ) → Bool
are_few rows = nat_le (length rows) MOST_MASTERS

-- All rows that the facts make known are few. Rows in their place are: there is one for each master.
abbrev pub HasFewRows : List OrderFact → Type 0
HasFewRows facts = IsTrue (list_all are_few (rows_known facts))

-- The order is that of a master that was handed facts of few rows.
pub record KnowsFewRows (order : OrderState) : Type 0 where
  pub group : Group
  pub facts : List OrderFact
  pub said : List Body
  pub is : IsOrderOf group order facts said
  pub few : HasFewRows facts

-- the rows of number s that the leader of view v counts as offered, where a plan of the view is known
abbrev pub counted_in : Group → List OrderFact → ℕ → ℕ → Option (List (List ℕ))
counted_in g facts v s = option_and_then (λ plan. counted_rows g facts v plan s) (plan_known facts v)

-- how far the known rows of the numbers up to `last` reach
abbrev pub reach_to : Group → List OrderFact → ℕ → ℕ → ℕ → ℕ
reach_to g facts v last = reach g (filter_map (counted_in g facts v) (numbers_from 1 last))

-- the rows of all numbers up to `settled` are known, and reach so far
pub record IsSettled (g : Group) (facts : List OrderFact) (v settled : ℕ) (numbers : List ℕ) : Type 0 where
  pub rows : (s : ℕ) → 1 ≤ s → s ≤ settled → IsSome (counted_in g facts v s)
  pub reach : TellsEach numbers (reach_to g facts v settled)

-- how far the plan of a view goes, 0 where none is known
abbrev pub plan_end : List OrderFact → ℕ → ℕ
plan_end facts v = elim (plan_known facts v) [ None ↦ 0 | Some plan ↦ plan.base + length plan.rows ]

-- all up to the base of the plan of a view is ordered, where a plan is known
abbrev pub has_whole_base : Group → List OrderFact → ℕ → Bool
has_whole_base g facts v = elim (plan_known facts v) [ None ↦ false | Some plan ↦ nat_le plan.base (gapless g facts) ]

-- The number after the plan and after the greatest offered, where the limits allow it.
unfoldable pub number_within : ℕ → Plan → ℕ → Option ℕ
number_within greatest plan stable =
    let s = max (plan.base + length plan.rows) greatest + 1 in
    if nat_le s most_number && nat_le s (stable + window) then Some s else None
