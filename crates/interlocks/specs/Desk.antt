-- What stands open while a rule is read from left to right. (This project's own.)
use Rattle.std.specs.Prelude.{ℕ, List, Option}
use Rattle.interlocks.specs.declared.reader.Scope.{Scope}

-- the brackets that are open, innermost first, what is read within the present ones, the nodes so far, and
-- the place of the first name that nothing has
pub record Desk : Type 0 where
  pub outer : List Scope
  pub scope : Scope
  pub nodes : ℕ
  pub unknown : Option ℕ
