-- Rules that stay alive, the global order: which numbers a master prepares. A leader can burn numbers, of which there are few,
-- by offering what makes nothing new eligible; so beyond a view's plan only what adds something is prepared, in turn. (This
-- project's own.)
use Rattle.std.specs.Prelude.{ℕ, ◌+◌, ◌-◌, Bool, false, ◌||◌, List, [], ◌++◌, Option, Some, None, length}
use Rattle.std.specs.Prelude.{nat_le, if◌then◌else◌}
use Rattle.std.specs.List.{list_all, filter_map, flat_map}
use Rattle.message_types.specs.declared.body.Body.{Body}
use Rattle.protocol_rules.specs.declared.facts.OrderFact.{OrderFact}
use Rattle.protocol_rules.specs.Words.{or_else, numbers_from}
use Rattle.protocol_rules.specs.Group.{Group}
use Rattle.protocol_rules.specs.Matrix.{reach, exceeds}
use Rattle.protocol_rules.specs.Order.{ordered, ordered_run, gapless, offered, plan_known, prepare_due, in_window}

-- what stands as number s for a follower of view v: what the view offers, else what is ordered
abbrev pub stands_at : Group → List OrderFact → ℕ → ℕ → Option (List (List ℕ))
stands_at g facts v s = or_else (offered facts v s) (ordered g facts s)

-- the last number of the plan of view v
abbrev pub plan_end : List OrderFact → ℕ → ℕ
plan_end facts v = elim (plan_known facts v) [ None ↦ 0 | Some plan ↦ plan.base + length plan.rows ]

-- all rows up to before number s: what is ordered without a gap, then what stands
abbrev pub rows_before : Group → List OrderFact → ℕ → ℕ → List (List (List ℕ))
rows_before g facts v s = ordered_run g facts
    ++ filter_map (stands_at g facts v) (numbers_from (gapless g facts + 1) (s - gapless g facts - 1))

-- Number s stands, and beyond the plan it makes more eligible than all before it.
abbrev pub adds : Group → List OrderFact → ℕ → ℕ → Bool
adds g facts v s = elim (stands_at g facts v s) [
  | None ↦ false
  | Some rows ↦ nat_le s (plan_end facts v) || exceeds g rows (reach g (rows_before g facts v s))
]

-- Number s is worth a prepare: it is of the plan, or each number above those ordered without a gap adds something, up to s.
abbrev pub is_worth : Group → List OrderFact → ℕ → ℕ → Bool
is_worth g facts v s =
    nat_le s (plan_end facts v) || list_all (adds g facts v) (numbers_from (gapless g facts + 1) (s - gapless g facts))

-- in the open view v: a prepare for each number that it offers, that is worth one and that none was said for
abbrev pub worthy_prepares_due : Group → List OrderFact → List Body → ℕ → Bool → List Body
worthy_prepares_due g facts said v is_open =
    if is_open then flat_map (λ s. if is_worth g facts v s then prepare_due facts said v s else []) (in_window g facts)
    else []
