-- The masters of the parts so far.
use Rattle.std.proofs.Common.{◌≡◌, take}
use Rattle.parity_parts.specs.Parts.{masters}
use Rattle.parity_parts.proofs.joining.masters_of.Given as goal

abbrev pub invariant-loop-part : goal.invariant-loop-part
invariant-loop-part l = l.made.items ≡ masters (take l.part-index l.parts)
