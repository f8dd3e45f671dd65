-- What is made and what the rest of the quotient adds is the whole.
use Rattle.std.proofs.Common.{◌≡◌, ◌++◌, drop}
use Rattle.parity_parts.specs.Interpolation.{raised}
use Rattle.parity_parts.proofs.interpolation.raise.Given as goal

abbrev pub invariant-loop-q : goal.invariant-loop-q
invariant-loop-q l =
    l.made.items ++ raised l.x l.carry (drop l.q-index l.quotient) ≡ raised l.x l.fn.y l.quotient
