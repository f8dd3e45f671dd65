-- The symbols of the parts so far.
use Rattle.std.proofs.Common.{◌≡◌, take}
use Rattle.parity_parts.specs.Parts.{symbols}
use Rattle.parity_parts.proofs.joining.symbols_of.Given as goal

abbrev pub invariant-loop-part : goal.invariant-loop-part
invariant-loop-part l = l.made.items ≡ symbols (take l.part-index l.parts) l.place
