-- What is made and what the rest of the points adds is the whole.
use Rattle.std.proofs.Common.{◌≡◌, ◌++◌, drop, length}
use Rattle.parity_parts.specs.Interpolation.{quotients}
use Rattle.parity_parts.proofs.interpolation.quotients_of.Given as goal

abbrev pub invariant-loop-i : goal.invariant-loop-i
invariant-loop-i l =
    (l.made.items ++ quotients l.x l.y (drop l.i l.points) (drop l.i l.values) ≡ quotients l.x l.y l.points l.values)
    × (length l.made.items ≡ l.i)
