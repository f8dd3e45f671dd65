-- A part of a rule that is read, with how deep it is. (This project's own.)
use Rattle.std.specs.Prelude.{ℕ, refl}
use Rattle.std.specs.Coded.{Coded, code_by, coded×, coded_ℕ}
use Rattle.interlocks.specs.Formula.{Formula}
use Rattle.interlocks.specs.Code.{formula_code}

-- a part of a rule that is read, and how many levels it has. Where it is a chain's parts so far, the
-- levels are those of the parts
pub record Part : Type 0 where
  pub tree : Formula
  pub levels : ℕ

abbrev pub part_code : Coded Part
part_code = code_by (Formula × ℕ) (coded× formula_code coded_ℕ) (λ p. (p.tree, p.levels))
    (λ c. record { tree = c.0; levels = c.1 }) (λ _. refl)
