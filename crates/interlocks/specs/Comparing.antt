-- The six comparisons of a rule. (This project's own.)
use Rattle.std.specs.Prelude.{Bool, not, ℤ, int_le, int_lt}
use Rattle.std.specs.Ordering.{int_eq}
use Rattle.interlocks.specs.declared.tree.Comparison.{Comparison}
use Rattle.interlocks.specs.declared.tree.Comparison.TheVariants.{Equal, NotEqual, Below, AtMost, Above, AtLeast}

-- whether one number stands so to another
abbrev pub compares : Comparison → ℤ → ℤ → Bool
compares Equal a b = int_eq a b
compares NotEqual a b = not (int_eq a b)
compares Below a b = int_lt a b
compares AtMost a b = int_le a b
compares Above a b = int_lt b a
compares AtLeast a b = int_le b a
