-- Up to which number a master prepares, by the rules that stay alive.
use Rattle.std.specs.Prelude.{◌≡◌, ℕ, ◌+◌, ◌≤◌, Bool, true, false, List, ◌++◌, Option, Some, None, nat_le}
use Rattle.message_types.specs.declared.body.Body.{Body}
use Rattle.protocol_rules.specs.declared.facts.OrderFact.{OrderFact}
use Rattle.protocol_rules.specs.Group.{Group, window}
use Rattle.protocol_rules.specs.Matrix.{reach}
use Rattle.protocol_rules.specs.Order.{stable, commits_due, marks_due}
use Rattle.protocol_rules.specs.Worth.{adds, is_worth, rows_before, worthy_prepares_due}
use Rattle.summary_matrix.specs.Held.{TellsEach}
use Rattle.summary_matrix.specs.declared.reach.Reach.{Reach}

-- what is due in a view, of prepares those alone that are worth one: prepares, commits, marks
abbrev pub worthy_bodies_due : Group → List OrderFact → List Body → ℕ → Bool → List Body
worthy_bodies_due g facts said view is_open = worthy_prepares_due g facts said view is_open
    ++ commits_due g facts said view ++ marks_due g facts said

-- of the numbers of the window those up to `last`, and no others, are worth a prepare in view v
abbrev pub IsWorthTo : Group → List OrderFact → ℕ → ℕ → Type 0
IsWorthTo g facts v last = (s : ℕ) → 1 ≤ s → s ≤ stable g facts + window → is_worth g facts v s ≡ nat_le s last

-- the numbers tell how far the rows before number s reach
abbrev pub ReachesBefore : Group → List OrderFact → ℕ → ℕ → List ℕ → Type 0
ReachesBefore g facts v s numbers = TellsEach numbers (reach g (rows_before g facts v s))

-- number s adds something, and so far the rows up to it reach, or it adds nothing
abbrev pub IsAdded : Group → List OrderFact → ℕ → ℕ → Option Reach → Type 0
IsAdded g facts v s None = adds g facts v s ≡ false
IsAdded g facts v s (Some more) = (adds g facts v s ≡ true) × ReachesBefore g facts v (s + 1) more.numbers
